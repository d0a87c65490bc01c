-- `table::tag_of` meets its contract.
use mathlib.Core.Path.{ap, sym, ◌∙◌}
use Rattle.table.proofs.RowLaws.{table_at}
use Rattle.table.specs.Row.{tag_from}
use Rattle.table.proofs.tag_of.Goals as goal

pub returns : goal.returns
returns c = let a = c.args in c.tag_from.ensures ∙ ap tag_from c.row-w.ensures ∙ sym (table_at a.t.now a.k)
