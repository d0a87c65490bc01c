-- Memory as cells of eight bytes, the low byte first, and as rows of 32 cells.
use Rattle.std.specs.Prelude.{List, [], ◌∷◌, ℕ, ◌+◌, ◌*◌, ◌/◌, ◌%◌, length, take, replicate}
use Rattle.memory.specs.Blocks.{blocks, byte_at}

abbrev pub bytes_of : ℕ → List ℕ
bytes_of v = v % 256 ∷ v / 0x100 % 256 ∷ v / 0x1_0000 % 256 ∷ v / 0x100_0000 % 256 ∷ v / 0x1_0000_0000 % 256 ∷ v / 0x100_0000_0000 % 256 ∷ v / 0x1_0000_0000_0000 % 256 ∷ v / 0x100_0000_0000_0000 % 256 ∷ []

abbrev pub quad_at : List ℕ → ℕ → ℕ
quad_at s at = byte_at s at + byte_at s (at + 1) * 0x100 + byte_at s (at + 2) * 0x1_0000 + byte_at s (at + 3) * 0x100_0000

abbrev pub word_at : List ℕ → ℕ → ℕ
word_at s at =
    (byte_at s at + byte_at s (at + 1) * 0x100 + byte_at s (at + 2) * 0x1_0000 + byte_at s (at + 3) * 0x100_0000)
    + (byte_at s (at + 4) + byte_at s (at + 5) * 0x100 + byte_at s (at + 6) * 0x1_0000 + byte_at s (at + 7) * 0x100_0000) * 0x1_0000_0000

-- the first n cells
abbrev pub words : ℕ → List ℕ → List ℕ
words n bs = blocks (λ (b : List ℕ). word_at b 0) 8 n bs

-- the whole cells
unfoldable pub cells_in : List ℕ → List ℕ
cells_in bs = words (length bs / 8) bs

-- the whole rows, each a list of 32 cells
unfoldable pub rows_in : List ℕ → List (List ℕ)
rows_in bs = blocks (take 32) 32 (length bs / 256) (cells_in bs)

-- a row that is not there
abbrev pub no_row : List ℕ
no_row = replicate 32 0
