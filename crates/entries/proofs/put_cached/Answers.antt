-- `entries::put_cached` meets its contract.
use mathlib.Core.Path.{ap, ◌∙◌}
use lib.ListN.{get_or, set}
use Rattle.memory.specs.Cells.{rows_in, no_row}
use Rattle.memory.proofs.RowLaws.{row_long}
use Rattle.table.specs.Row.{with_entry_words}
use Rattle.table.specs.Table.{table_in}
use Rattle.table.proofs.RowLaws.{table_at, table_put}
use Rattle.entries.proofs.EntryLaws.{cached_put}
use Rattle.entries.proofs.put_cached.Goals as goal

pub returns : goal.returns
returns c =
    let a = c.args in
    let t = a.t.now in
    let w = get_or (rows_in t) a.k no_row in
    let v = c.from in
    table_put t c.put_words.new.t (with_entry_words w 16 v.result) a.k c.put_words.ensures
    ∙ ap (set (table_in t) a.k) (cached_put w (row_long t a.k) v.result a.e v.ensures.0 ∙ rw (← (table_at t a.k)))
