-- `rounds::added::any_added` meets its contract.
use mathlib.Core.Path.{sym, ◌∙◌}
use native.Mathlib.Omega.{arith}
use Rattle.table.specs.Table.{table_in}
use Rattle.table.proofs.RowLaws.{length-table}
use Rattle.rounds.proofs.AddedLaws.{any_end}
use Rattle.rounds.proofs.added.any_added.Goals as goal

pub returns : goal.returns
returns c =
    let t = c.args.t.now in
    let l = c.loop-k in
    sym (l.invariant ∙ any_end (table_in t) l.k (omega (arith, length-table t)))
