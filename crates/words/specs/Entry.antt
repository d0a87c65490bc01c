-- Entries as six words: 0 for none or the quality's number and 1, the value, the time and the error.
use Rattle.std.specs.Prelude.{cond, List, [], ◌∷◌, ℕ, ◌+◌, eqb, Option, Some, None}
use Rattle.std.proofs.Common.{to_z, of_z}
use Rattle.std.specs.Int.{w64}
use Rattle.values.specs.Entry.{quality_number}
use Rattle.values.specs.declared.entry.Quality.{Quality}
use Rattle.values.specs.declared.entry.Quality.TheVariants.{Good, Bad, Missing, Stale}
use Rattle.values.specs.declared.entry.Entry.{Entry}
use Rattle.words.specs.Value.{value_from, value_words_of}
use Rattle.words.specs.Error.{error_from, error_words_of}
use Rattle.words.specs.declared.entry.EntryWords.{EntryWords}

abbrev pub quality_from : ℕ → Quality
quality_from held = cond (eqb held 2) Bad (cond (eqb held 3) Missing (cond (eqb held 4) Stale Good))

-- the entry that six words hold
unfoldable pub entry_from : EntryWords → Entry
entry_from w = record { value = value_from w.kind w.word; quality = quality_from w.held; t = to_z w64 w.t; error = error_from w.error w.message }

abbrev pub held_from : EntryWords → Option Entry
held_from w = cond (eqb w.held 0) None (Some (entry_from w))

-- the words of an entry
unfoldable pub entry_words_of : Entry → EntryWords
entry_words_of e = record {
  held = quality_number e.quality + 1;
  kind = (value_words_of e.value).kind;
  word = (value_words_of e.value).word;
  t = of_z w64 e.t;
  error = (error_words_of e.error).kind;
  message = (error_words_of e.error).message;
}

-- the words of an entry, or of none
abbrev pub held_words_of : Option Entry → EntryWords
held_words_of None = record { held = 0; kind = 0; word = 0; t = 0; error = 0; message = 0 }
held_words_of (Some e) = entry_words_of e

-- The cells that a host is given of an entry, or of none: its words, and two of 0.
abbrev pub entry_cells : Option Entry → List ℕ
entry_cells h =
    let w = held_words_of h in
    w.held ∷ w.kind ∷ w.word ∷ w.t ∷ w.error ∷ w.message ∷ 0 ∷ 0 ∷ []
