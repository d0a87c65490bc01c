-- `entries::published_of` meets its contract.
use mathlib.Core.Path.{ap, sym, ◌∙◌}
use Rattle.words.specs.Entry.{held_from}
use Rattle.words.specs.declared.entry.EntryWords.{EntryWords}
use Rattle.table.specs.declared.tag.Tag.{Tag}
use Rattle.table.specs.Row.{tag_from}
use Rattle.table.proofs.RowLaws.{table_at}
use Rattle.entries.proofs.published_of.Goals as goal

pub returns : goal.returns
unfolding tag_from
returns c =
    let a = c.args in
    c.held_from.ensures ∙ ap (λ (w : EntryWords). held_from w) c.words_at.ensures ∙ sym (ap (λ (x : Tag). x.published) (table_at a.t.now a.k))
