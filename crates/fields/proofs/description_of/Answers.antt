-- `fields::description_of` meets its contract.
use mathlib.Core.Path.{ap, sym}
use Rattle.table.specs.declared.tag.Tag.{Tag}
use Rattle.table.proofs.RowLaws.{table_at}
use Rattle.table.specs.Row.{tag_from}
use Rattle.fields.proofs.description_of.Goals as goal

pub returns : goal.returns
unfolding tag_from
returns c =
    let a = c.args in
    rw (c.description_from.ensures, c.row_cell.ensures) (sym (ap (λ (x : Tag). x.description) (table_at a.t.now a.k)))
