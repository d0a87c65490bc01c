-- Memory as records of some cells each.
use Rattle.std.specs.Prelude.{Bool, true, ◌&&◌, List, [], ◌∷◌, ℕ, ◌/◌, length, take}
use Rattle.memory.specs.Blocks.{blocks}
use Rattle.memory.specs.Cells.{cells_in}

-- the whole records of w cells
unfoldable pub records_of : ℕ → List ℕ → List (List ℕ)
records_of w ws = blocks (take w) w (length ws / w) ws

-- those that lent memory holds
abbrev pub records_in : ℕ → List ℕ → List (List ℕ)
records_in w bs = records_of w (cells_in bs)

-- whether each passes a test
unfoldable pub every : {A : Type 0} → (A → Bool) → List A → Bool
every p [] = true
every p (x ∷ l) = p x && every p l
