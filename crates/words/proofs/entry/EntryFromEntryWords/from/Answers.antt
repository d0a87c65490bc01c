-- `words::entry::EntryFromEntryWords::from` meets its contract.
use mathlib.Core.Path.{◌∙◌}
use mir.Val.{SFits}
use mir.Syntax.{w64}
use mir.Facts.{to_z-of_z}
use Rattle.words.specs.Entry.{entry_from}
use borrow.Author.Rules.{rules}
use Rattle.words.proofs.entry.EntryFromEntryWords.from.Goals as goal

pub returns : goal.returns
unfolding entry_from
returns c =
    let fit : SFits w64 c.int_of_word.result = search rules in
    simp (to_z-of_z fit ∙ c.int_of_word.ensures, c.error_from.ensures, c.quality_from.ensures, c.value_from.ensures)
