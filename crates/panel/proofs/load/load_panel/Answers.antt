-- `panel::load::load_panel` meets its contract.
use mathlib.Core.Path.{ap, ap₂, sym, ◌∙◌}
use Prim.Native.Nat.{ℕ, ◌+◌}
use native.Mathlib.Omega.{arith}
use lib.ListN.{drop}
use Rattle.board.specs.Board.{Table, Board, board_in, with_table}
use Rattle.tiers.specs.Tiers.{set_tier}
use Rattle.panel.proofs.PanelLaws.{tiers_fewer, load_more, load_end}
use Rattle.panel.specs.Panel.{tags_of, tiers_of, loaded}
use Rattle.panel.proofs.load.load_panel.Goals as goal

pub loop-i-preserved : goal.loop-i-preserved
loop-i-preserved c =
    let a = c.args in
    let l = c.loop-i in
    let s = c.set_tier in
    let list = a.list.now in
    let tags = tags_of list in
    let tiers = tiers_of list in
    let B = board_in l.b in
    let call = s.ensures.board ∙ ap₂ (λ (k tier : ℕ). with_table B (set_tier B.table k tier a.grace a.clock)) c.tag_at.ensures c.tier_at.ensures in (
      s.ensures.still,
      (
        s.auto.b ∙ l.invariant.1.0,
        l.invariant.1.1
            ∙ ap (λ (T : Table). with_table B T) (load_more B.table tags tiers a.grace a.clock l.i (omega (arith, tiers_fewer list)) (omega arith))
            ∙ ap (λ (X : Board). with_table X (loaded X.table (drop (l.i + 1) tags) (drop (l.i + 1) tiers) a.grace a.clock)) (sym call),
      ),
    )

pub returns : goal.returns
returns c =
    let a = c.args in
    let l = c.loop-i in
    let list = a.list.now in
    let B = board_in l.b in
    record {
      still = l.invariant.0;
      board = sym (l.invariant.1.1 ∙ ap (λ (T : Table). with_table B T) (load_end B.table (tags_of list) (tiers_of list) a.grace a.clock l.i (omega arith)));
    }
