-- `fields::settings_of` meets its contract.
use mathlib.Core.Path.{ap, sym}
use Rattle.table.specs.declared.tag.Tag.{Tag}
use Rattle.table.proofs.RowLaws.{table_at}
use Rattle.table.specs.Row.{tag_from}
use Rattle.fields.proofs.settings_of.Goals as goal

pub returns : goal.returns
unfolding tag_from
returns c =
    let a = c.args in
    rw (c.settings_from.ensures, c.row_cell-5.ensures, c.row_cell-4.ensures, c.row_cell-3.ensures, c.row_cell-2.ensures, c.row_cell.ensures) (sym (ap (λ (x : Tag). x.settings) (table_at a.t.now a.k)))
