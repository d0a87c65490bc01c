-- `table::put_tag` meets its contract.
use mathlib.Core.Path.{ap, ◌∙◌}
use Rattle.table.specs.declared.tag.Tag.{Tag}
use Rattle.table.proofs.RowLaws.{table_put}
use Rattle.table.specs.Table.{table_in}
use lib.ListN.{set}
use Rattle.table.proofs.put_tag.Goals as goal

pub returns : goal.returns
returns c =
    let a = c.args in
    let w = c.tag_words-w in
    table_put a.t.now c.put_row.new.s w.result a.k c.put_row.ensures
    ∙ ap (λ (x : Tag). set (table_in a.t.now) a.k x) w.ensures
