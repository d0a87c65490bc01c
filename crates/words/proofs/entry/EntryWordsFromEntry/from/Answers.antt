use mathlib.Core.Path.{ap, ◌∙◌}
use mir.Val.{SFits, of_z}
use mir.Syntax.{w64}
use mir.Facts.{to_z-of_z}
use borrow.Author.Rules.{rules}
use Rattle.words.specs.Entry.{entry_words_of}
use Rattle.words.proofs.Laws.{entry_coded}
use Rattle.words.proofs.entry.EntryWordsFromEntry.from.Goals as goal

pub returns : goal.returns
unfolding entry_words_of
returns c =
    let fit : SFits w64 c.args.e.t = search rules in
    let value = c.from-value.ensures in
    let error = c.from-error.ensures in
    let time = to_z-of_z fit in (
      entry_coded c.args.e _ c.quality_word.ensures value.0 (c.word_of_int.ensures.back ∙ time) error.0,
      rw (c.quality_word.ensures, value.1, c.word_of_int.ensures.bits ∙ ap (of_z w64) time, error.1),
    )
