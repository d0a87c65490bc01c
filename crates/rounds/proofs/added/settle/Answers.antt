-- `rounds::added::settle` meets its contract.
use mathlib.Core.Path.{ap, sym, ◌∙◌}
use Prim.Native.Nat.{◌<◌}
use native.Mathlib.Omega.{arith}
use lib.ListN.{length}
use Rattle.memory.proofs.LoopLaws.{mapped_all}
use Rattle.table.specs.Table.{table_in}
use Rattle.table.proofs.RowLaws.{length-table}
use Rattle.rounds.specs.Added.{settled}
use Rattle.rounds.proofs.AddedLaws.{settled_put, settled-kept}
use Rattle.rounds.proofs.added.settle.Goals as goal
use Rattle.rounds.proofs.added.settle.Goals.{else-added_of, then-added_of}

pub returns : goal.returns
returns c =
    let a = c.args in
    let l = c.loop-k in
    l.invariant.1 ∙ mapped_all settled (table_in a.t.now) l.k (omega (arith, length-table a.t.now))

pub loop-k-preserved : goal.loop-k-preserved
loop-k-preserved c =
    let a = c.args in
    let l = c.loop-k in
    let flag = c.added_of in
    let tags = table_in a.t.now in
    let h : l.k < length tags = omega (arith, length-table a.t.now) in elim c.if-added_of.branch [
      | then-added_of w ↦ (
        ap length w.t-is ∙ w.put_added.auto.t ∙ l.invariant.0,
        ap table_in w.t-is ∙ w.put_added.ensures ∙ settled_put tags l.k (table_in l.t) l.invariant.1 h,
      )
      | else-added_of w ↦ (
        ap length w.t-is ∙ l.invariant.0,
        ap table_in w.t-is ∙ settled-kept tags l.k (table_in l.t) l.invariant.1 h (sym flag.ensures ∙ w.if-added_of.false),
      )
    ]
