-- `stale::stale_all` meets its contract.
use Rattle.stale.proofs.StaleLaws.{stale_more}
use Rattle.stale.specs.Stale.{tag_stale}
use Rattle.table.proofs.RowLaws.{length-table}
use Rattle.table.specs.Table.{table_in}
use Rattle.memory.proofs.LoopLaws.{mapped_none, mapped_all}
use lib.ListN.{length}
use Prim.Native.Nat.{◌<◌}
use mathlib.Core.Path.{refl, ◌∙◌}
use native.Mathlib.Omega.{arith}
use Rattle.stale.proofs.stale_all.Goals as goal

pub loop-k-init : goal.loop-k-init
loop-k-init c =
    (refl, mapped_none tag_stale (table_in c.args.table.now))

pub loop-k-preserved : goal.loop-k-preserved
loop-k-preserved c =
    let tags = table_in c.args.table.now in
    let l = c.loop-k in
    let h : l.k < length tags = omega (arith, length-table c.args.table.now) in
    (c.stale_at.auto.table ∙ l.invariant.0, c.stale_at.ensures ∙ stale_more tags l.k (table_in l.table) l.invariant.1 h)

pub shape_of-table : goal.shape_of-table
shape_of-table c = c.loop-k.invariant.0

pub returns : goal.returns
returns c =
    let t = c.args.table.now in
    let l = c.loop-k in
    l.invariant.1 ∙ mapped_all tag_stale (table_in t) l.k (omega (arith, length-table t))
