-- `descriptions::use_up_in` meets its contract.
use mathlib.Core.Path.{ap, sym, ◌∙◌}
use Prim.Native.Nat.{◌<◌}
use native.Mathlib.Omega.{arith}
use lib.ListN.{length}
use Rattle.memory.proofs.LoopLaws.{mapped_all}
use Rattle.table.specs.Table.{table_in}
use Rattle.table.proofs.RowLaws.{length-table}
use Rattle.descriptions.specs.Descriptions.{unwanted}
use Rattle.descriptions.proofs.Laws.{unwanted_put, unwanted-kept}
use Rattle.descriptions.proofs.use_up_in.Goals as goal
use Rattle.descriptions.proofs.use_up_in.Goals.{else-wants_of, then-wants_of}

pub returns : goal.returns
returns c =
    let a = c.args in
    let l = c.loop-k in
    l.invariant.1 ∙ mapped_all unwanted (table_in a.t.now) l.k (omega (arith, length-table a.t.now))

pub loop-k-preserved : goal.loop-k-preserved
loop-k-preserved c =
    let a = c.args in
    let l = c.loop-k in
    let flag = c.wants_of in
    let tags = table_in a.t.now in
    let h : l.k < length tags = omega (arith, length-table a.t.now) in elim c.if-wants_of.branch [
      | then-wants_of w ↦ (
        ap length w.t-is ∙ w.put_wants.auto.t ∙ l.invariant.0,
        ap table_in w.t-is ∙ w.put_wants.ensures ∙ unwanted_put tags l.k (table_in l.t) l.invariant.1 h,
      )
      | else-wants_of w ↦ (
        ap length w.t-is ∙ l.invariant.0,
        ap table_in w.t-is ∙ unwanted-kept tags l.k (table_in l.t) l.invariant.1 h (sym flag.ensures ∙ w.if-wants_of.false),
      )
    ]
