-- A change as a record of nine cells: the tag, and the eight cells of its published entry.
use Rattle.std.specs.Prelude.{List, ◌∷◌, ℕ, get_or}
use Rattle.words.specs.Entry.{entry_cells}
use Rattle.table.specs.Tag.{fresh_tag}
use Rattle.table.specs.declared.tag.Tag.{Tag}

-- the bytes of a change
abbrev pub change_size : ℕ
change_size = 72

-- Rule 7: what is told of the tag k
abbrev pub change_cells : List Tag → ℕ → List ℕ
change_cells tags k = k ∷ entry_cells (get_or tags k fresh_tag).published
