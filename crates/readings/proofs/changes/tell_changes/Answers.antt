-- `readings::changes::tell_changes` meets its contract.
use mathlib.Core.Path.{ap, ◌∙◌}
use mathlib.Core.List.{List}
use Rattle.tags.specs.Lists.{list_in}
use Rattle.table.specs.declared.tag.Tag.{Tag}
use Rattle.lent.specs.Lent.{cell_bytes, records, wrote_all}
use Rattle.lent.specs.Changes.{change_cells}
use Rattle.board.proofs.BoardLaws.{tags_read}
use Rattle.readings.proofs.changes.tell_changes.Goals as goal

pub returns : goal.returns
returns c =
    let a = c.args in
    let t = c.table_of in record {
      value = c.count.ensures;
      out_after = c.put_changes.ensures
          ∙ ap (λ (ts : List Tag). wrote_all a.out.now (cell_bytes (records (change_cells ts) (list_in a.changes.now)))) (tags_read a.b.now t.result.now t.ensures);
    }
