-- Numbers in bytes, the low byte first; 0 where the bytes end before the number does.
use Rattle.std.specs.Prelude.{List, cond, ℕ, ◌+◌, ◌*◌, ◌%◌, leb, length, get_or}

abbrev pub byte_at : List ℕ → ℕ → ℕ
byte_at s i = get_or s i 0 % 256

abbrev pub four_at : List ℕ → ℕ → ℕ
four_at s at = cond (leb (at + 4) (length s)) (byte_at s at + byte_at s (at + 1) * 0x100 + byte_at s (at + 2) * 0x1_0000 + byte_at s (at + 3) * 0x100_0000) 0

abbrev pub eight_at : List ℕ → ℕ → ℕ
eight_at s at = cond (leb (at + 8) (length s)) (four_at s at + four_at s (at + 4) * 0x1_0000_0000) 0
