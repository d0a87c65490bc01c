-- `tiers::set::put` meets its contract.
use mathlib.Core.Path.{◌≡◌, ◌∙◌}
use Rattle.tiers.specs.Tiers.{added_set, wants_set}
use Rattle.board.specs.Board.{board_in, tag_at, is_bit}
use Rattle.tiers.proofs.Laws.{put_steps}
use Rattle.tiers.proofs.set.put.Goals as goal

pub returns : goal.returns
returns c =
    let a = c.args in
    let bit = c.is_bit in
    let old = c.tier_of-old in
    let grace = c.grace_of-grace in
    let added = c.added_set-added in
    let wants = c.wants_set-wants in
    let stood = c.put_standing in
    let kept = c.forget_for in
    let order = c.order_set in
    let graces = c.end_grace in
    let B = board_in a.b.now in
    let x = tag_at B.table a.k in
    let is_added : added.result ≡ added_set x a.tier = added.ensures ∙ simp (old.ensures, c.added_of.ensures) in
    let is_wanted : wants.result ≡ wants_set x (is_bit B.table a.k) a.tier = wants.ensures ∙ simp (old.ensures, c.wants_of.ensures, bit.ensures) in
    let steps =
    put_steps B (board_in stood.new.b) (board_in kept.new.b) (board_in order.new.b) (board_in graces.new.b) a.k a.tier a.g
    (stood.ensures.board ∙ rw (is_added, is_wanted)) kept.ensures.board (order.ensures.board ∙ rw old.ensures) (graces.ensures.board ∙ rw grace.ensures)
    in
    record { still = graces.ensures.still; board = steps }
