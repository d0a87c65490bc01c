-- `fields::put_wants` meets its contract.
use mathlib.Core.Path.{ap, ◌∙◌}
use Rattle.table.proofs.RowLaws.{table_at, table_put}
use Rattle.fields.proofs.FieldLaws.{wants_put}
use Rattle.memory.specs.Cells.{rows_in, no_row}
use Rattle.memory.proofs.RowLaws.{row_long}
use Rattle.table.specs.Table.{table_in}
use lib.ListN.{get_or, set}
use Rattle.fields.proofs.put_wants.Goals as goal

pub returns : goal.returns
returns c =
    let a = c.args in
    let t = a.t.now in
    let w = get_or (rows_in t) a.k no_row in
    table_put t c.put_row_cell.new.s (set w 9 c.word_of_flag.result) a.k c.put_row_cell.ensures
    ∙ ap (set (table_in t) a.k) (wants_put w (row_long t a.k) c.word_of_flag.result ∙ rw (c.word_of_flag.ensures, ← (table_at t a.k)))
