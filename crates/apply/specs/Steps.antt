-- Rule 7 in steps: what each of them makes of a tag.
use Rattle.std.specs.Prelude.{◌≡◌, Bool, true, false, cond, ℕ, eqb, ℤ, Float, Option}
use Rattle.values.specs.Entry.{TagResult, merged}
use Rattle.values.specs.declared.entry.Quality.{Quality}
use Rattle.values.specs.declared.entry.Quality.TheVariants.{Good}
use Rattle.values.specs.declared.entry.Entry.{Entry}
use Rattle.words.specs.declared.entry.EntryWords.{EntryWords}
use Rattle.table.specs.Table.{with_timing, with_cached, with_published}
use Rattle.table.specs.declared.tag.Tag.{Tag}
use Rattle.apply.specs.Apply.{is_same_as, timing_read, is_withheld}

-- the missing mark set or cleared
abbrev pub marked : Tag → Quality → Float → Tag
marked x q start = with_timing x (timing_read x.timing q start)

-- the entry e cached, if it is not the same as what was
unfoldable pub cached_over : Option Entry → Tag → Entry → Tag
cached_over old x e = cond (is_same_as old e) x (with_cached x e)

abbrev pub is_withheld_from : Tag → Entry → Bool → Bool
is_withheld_from x e polled = is_withheld polled x.settings.band x.published e

-- the entry e published, unless withheld
unfoldable pub published_over : Tag → Entry → Bool → Tag
published_over x e polled = cond (is_withheld_from x e polled) x (with_published x e)

-- Six words of a good entry, whose value two words are.
pub record GoodAs (w : EntryWords) (kind word : ℕ) : Type 0 where
  pub held_is : w.held ≡ 1
  pub error_is : w.error ≡ 0
  pub kind_is : w.kind ≡ kind
  pub word_is : w.word ≡ word

-- A good reading that is the same as the cached entry, whatever the wall time. Polled it only clears the mark.
pub record Repeated (x : Tag) (r : TagResult) : Type 0 where
  pub tiered : eqb x.tier 0 ≡ false
  pub good : (t : ℤ) → (merged x.cached r t).quality ≡ Good
  pub known : (t : ℤ) → is_same_as x.cached (merged x.cached r t) ≡ true
