-- `rounds::steps::list_due_in` meets its contract.
use mathlib.Core.Path.{◌≡◌, ◌∙◌}
use Prim.Native.Nat.{ℕ}
use native.Mathlib.Omega.{arith}
use lib.ListN.{get_or, take}
use lib.Seq.{take_all}
use Rattle.lists.proofs.KeepLaws.{length-keep}
use Rattle.tags.specs.Lists.{list_in, room}
use Rattle.table.specs.Tag.{fresh_tag}
use Rattle.board.specs.Board.{board_in}
use Rattle.rounds.specs.Due.{is_due, due_tags}
use Rattle.board.proofs.BoardLaws.{tags_read, order-read, order_short, room_few}
use Rattle.rounds.proofs.steps.list_due_in.Goals as goal

pub returns : goal.returns
returns c =
    let a = c.args in
    let b = a.b.now in
    let T = (board_in b).table in
    let t = c.table_of in
    let l = c.order_of in
    let due = due_tags T.tags T.order a.clock a.half a.cycle in
    let listed : list_in c.list_due.new.list ≡ take (room a.list.now) due =
    c.list_due.ensures ∙ rw (tags_read b t.result.now t.ensures, order-read b l.result.now l.ensures)
    in
    listed
    ∙ take_all (room a.list.now) due
    (omega (arith, length-keep (λ (k : ℕ). is_due (get_or T.tags k fresh_tag) a.clock a.half a.cycle) T.order, order_short b c.requires.board, room_few b c.requires.board, c.requires.max_names_bound))
