-- The changes that a list of cells holds, nine cells each, as `lent` writes them.
use Rattle.std.specs.Prelude.{⊤, List, [], ◌∷◌, ◌++◌, ℕ, zero, suc, ◌+◌, ◌*◌, ◌%◌, min, pos, length, get_or, cond, ltb, Option, Some, None, Result, Ok, Err}
use Rattle.refusals.specs.declared.Refusal.{Refusal}
use Rattle.refusals.specs.declared.Refusal.TheVariants.{ListRoom}
use Rattle.values.specs.declared.value.Value.TheVariants.{Null}
use Rattle.values.specs.declared.entry.Quality.TheVariants.{Good}
use Rattle.values.specs.declared.entry.Entry.{Entry}
use Rattle.words.specs.Entry.{entry_from}
use Rattle.memory.specs.Cells.{cells_in}
use Rattle.names.specs.Directory.{max_names}
use Rattle.table.specs.Tag.{fresh_tag}
use Rattle.table.specs.Row.{entry_words_at}
use Rattle.table.specs.declared.tag.Tag.{Tag}
use Rattle.changes.specs.declared.Change.{Change}

-- the entry of six cells of 0
abbrev pub no_entry : Entry
no_entry = record { value = Null; quality = Good; t = pos 0; error = None }

-- a change that is not there
abbrev pub no_change : Change
no_change = record { tag = 0; entry = no_entry }

-- what is told of an entry, or of none
abbrev pub entry_of : Option Entry → Entry
entry_of None = no_entry
entry_of (Some e) = e

-- Rule 7: the change told of the tag k
abbrev pub change_of : List Tag → ℕ → Change
change_of tags k = record { tag = k; entry = entry_of (get_or tags k fresh_tag).published }

-- change i: the tag in cell 9i, and the entry whose words the six cells after it are; the last two are not read
unfoldable pub change_in : List ℕ → ℕ → Change
change_in cells i = record { tag = get_or cells (9 * i) 0 % 65536; entry = entry_from (entry_words_at cells (9 * i + 1)) }

-- the first n changes
unfoldable pub changes_from : List ℕ → ℕ → List Change
changes_from cells zero = []
changes_from cells (suc n) = changes_from cells n ++ (change_in cells n ∷ [])

-- the changes of a values event that has n, from the bytes of its list; there are never more than tags
abbrev pub told : List ℕ → ℕ → List Change
told list n = changes_from (cells_in list) (min n max_names)

-- the refusal of a run with fewer places than a directory has names at most
abbrev pub answer : List Change → Result ⊤ Refusal
answer out = cond (ltb (length out) max_names) (Err ListRoom) (Ok tt)
