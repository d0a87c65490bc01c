-- `rounds::graces::run_out` meets its contract.
use mathlib.Core.Path.{ap, ap₂, sym, ◌∙◌}
use Prim.Native.Nat.{◌+◌, ◌<◌}
use native.Mathlib.Nat.{mod-eq_of_lt}
use native.Mathlib.Omega.{arith}
use lib.ListN.{drop}
use Rattle.tags.specs.Lists.{list_in}
use Rattle.tags.proofs.ListLaws.{list_small}
use Rattle.tiers.specs.Tiers.{set_table}
use Rattle.rounds.specs.Graces.{run_out}
use Rattle.rounds.proofs.GraceLaws.{run_more, run_end}
use Rattle.board.specs.Board.{Table, Board, board_in, with_table}
use Rattle.rounds.specs.Graces.{after_of}
use Rattle.rounds.proofs.graces.run_out.Goals as goal

pub loop-i-preserved : goal.loop-i-preserved
loop-i-preserved c =
    let a = c.args in
    let l = c.loop-i in
    let tags = list_in a.list.now in
    let s = c.set in
    let k = c.at-k in
    let small : k.result < 65536 = rw k.ensures (list_small a.list.now l.i) in
    let B = board_in l.b in
    let after = c.after_of-after.ensures ∙ ap after_of c.grace_of.ensures in (
      s.ensures.still,
      (
        s.auto.b ∙ l.invariant.1.0,
        l.invariant.1.1
            ∙ ap (λ (T : Table). with_table B T) (run_more B.table tags l.i k.result (omega arith) k.ensures)
            ∙ ap (λ (X : Board). with_table X (run_out X.table (drop (l.i + 1) tags)))
            (sym (s.ensures.board ∙ ap (λ (T : Table). with_table B T) (ap₂ (set_table B.table) (mod-eq_of_lt small) after))),
      ),
    )

pub returns : goal.returns
returns c =
    let a = c.args in
    let l = c.loop-i in
    let B = board_in l.b in
    record {
      still = l.invariant.0;
      board = sym (l.invariant.1.1 ∙ ap (λ (T : Table). with_table B T) (run_end B.table (list_in a.list.now) l.i (omega arith)));
    }
