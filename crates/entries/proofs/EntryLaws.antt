-- A row with the words of an entry replaced holds the tag with that entry, and one with 0 in an entry's first cell a tag without it.
use mathlib.Core.Path.{◌≡◌, refl, subst}
use mathlib.Core.List.{List}
use Prim.Native.Nat.{ℕ}
use lib.ListN.{length, set}
use Rattle.std.specs.Prelude.{Some}
use Rattle.memory.proofs.RowLaws.{spread, spread_is}
use Rattle.values.specs.declared.entry.Entry.{Entry}
use Rattle.words.specs.Entry.{held_from}
use Rattle.words.specs.declared.entry.EntryWords.{EntryWords}
use Rattle.table.specs.Row.{with_entry_words, tag_from}
use Rattle.table.specs.Table.{with_cached, with_published, without_readings}

module _ (w : List ℕ) (h : length w ≡ 32) where
  pub cached_put : (v : EntryWords) (e : Entry) → held_from v ≡ Some e → tag_from (with_entry_words w 16 v) ≡ with_cached (tag_from w) e
  unfolding tag_from spread
  cached_put v e f = subst (λ (r : List ℕ). tag_from (with_entry_words r 16 v) ≡ with_cached (tag_from r) e) (spread_is 32 w h) (rw f)

  pub published_put : (v : EntryWords) (e : Entry) → held_from v ≡ Some e → tag_from (with_entry_words w 24 v) ≡ with_published (tag_from w) e
  unfolding tag_from spread
  published_put v e f = subst (λ (r : List ℕ). tag_from (with_entry_words r 24 v) ≡ with_published (tag_from r) e) (spread_is 32 w h) (rw f)

  pub readings_forgotten : tag_from (set (set (set (set w 4 0) 6 0) 16 0) 24 0) ≡ without_readings (tag_from w)
  unfolding tag_from spread
  readings_forgotten = subst (λ (r : List ℕ). tag_from (set (set (set (set r 4 0) 6 0) 16 0) 24 0) ≡ without_readings (tag_from r)) (spread_is 32 w h) refl
