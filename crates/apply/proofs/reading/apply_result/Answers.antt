-- `apply::reading::apply_result` meets its contract.
use mathlib.Core.Path.{◌∙◌}
use Rattle.table.specs.Table.{table_in}
use Rattle.results.specs.Results.{result_in}
use Rattle.apply.proofs.ApplyLaws.{applied_again}
use Rattle.apply.proofs.reading.apply_result.Goals as goal

pub returns-then-is_repeat : goal.returns-then-is_repeat
returns-then-is_repeat c =
    let a = c.args in
    let tags = table_in a.table.now in
    let again = applied_again tags a.k (result_in a.results.now a.i) a.when.start a.when.t a.when.polled c.if-when.true (c.is_repeat.ensures c.if-is_repeat.true) in
    (c.put_mark.ensures ∙ again.0, again.1)
