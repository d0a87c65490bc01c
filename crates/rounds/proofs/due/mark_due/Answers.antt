-- `rounds::due::mark_due` meets its contract.
use mathlib.Core.Path.{ap, sym, ◌∙◌}
use mathlib.Core.List.{List}
use Prim.Native.Nat.{◌+◌}
use native.Mathlib.Omega.{arith}
use lib.ListN.{drop}
use Rattle.tags.specs.Lists.{list_in}
use Rattle.table.specs.Table.{table_in}
use Rattle.table.specs.declared.tag.Tag.{Tag}
use Rattle.rounds.specs.Due.{marked}
use Rattle.rounds.proofs.DueLaws.{marked_more, marked_end}
use Rattle.rounds.proofs.due.mark_due.Goals as goal

pub loop-i-preserved : goal.loop-i-preserved
loop-i-preserved c =
    let a = c.args in
    let l = c.loop-i in
    let tags = list_in a.list.now in
    let k = c.at in (
      c.put_last.auto.t ∙ l.invariant.0,
      l.invariant.1
          ∙ marked_more (table_in l.t) a.clock tags l.i k.result (omega arith) k.ensures
          ∙ ap (λ (x : List Tag). marked x a.clock (drop (l.i + 1) tags)) (sym c.put_last.ensures),
    )

pub returns : goal.returns
returns c =
    let a = c.args in
    let l = c.loop-i in
    sym (l.invariant.1 ∙ marked_end (table_in l.t) a.clock (list_in a.list.now) l.i (omega arith))
