-- Memory as halves of two bytes, the low byte first.
use Rattle.std.specs.Prelude.{List, [], ◌∷◌, ℕ, ◌+◌, ◌*◌, ◌/◌, ◌%◌, length}
use Rattle.memory.specs.Blocks.{blocks, byte_at}

abbrev pub half_bytes : ℕ → List ℕ
half_bytes v = v % 256 ∷ v / 0x100 % 256 ∷ []

abbrev pub half_at : List ℕ → ℕ → ℕ
half_at s at = byte_at s at + byte_at s (at + 1) * 0x100

-- the whole halves
unfoldable pub halves_in : List ℕ → List ℕ
halves_in bs = blocks (λ (b : List ℕ). half_at b 0) 2 (length bs / 2) bs
