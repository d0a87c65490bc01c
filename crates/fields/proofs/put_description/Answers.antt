-- `fields::put_description` meets its contract.
use mathlib.Core.Path.{ap, ◌∙◌}
use Rattle.table.proofs.RowLaws.{table_at, table_put}
use Rattle.fields.proofs.FieldLaws.{description_put}
use Rattle.memory.specs.Cells.{rows_in, no_row}
use Rattle.memory.proofs.RowLaws.{row_long}
use Rattle.table.specs.Table.{table_in}
use lib.ListN.{get_or, set}
use Rattle.fields.proofs.put_description.Goals as goal

pub returns : goal.returns
returns c =
    let a = c.args in
    let t = a.t.now in
    let w = get_or (rows_in t) a.k no_row in
    table_put t c.put_row_cell.new.s (set w 10 c.description_word.result) a.k c.put_row_cell.ensures
    ∙ ap (set (table_in t) a.k) (description_put w (row_long t a.k) c.description_word.result ∙ rw (c.description_word.ensures, ← (table_at t a.k)))
