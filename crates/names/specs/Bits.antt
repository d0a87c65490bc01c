-- Rule 1: `split_bit`. 46 is the dot, 48 to 57 are the digits.
use Rattle.std.specs.Prelude.{Bool, true, false, cond, ◌&&◌, List, [], ◌∷◌, ℕ, suc, ◌+◌, ltb, leb, eqb, length, drop, Option, Some, None}

-- Rule 1: the place of the last dot of a list whose first byte has the place `at`; `last` if it has no dot
unfoldable pub last_dot : ℕ → ℕ → List ℕ → ℕ
last_dot at last [] = last
last_dot at last (x ∷ xs) = last_dot (suc at) (cond (eqb x 46) at last) xs

-- Rule 1: every byte is a digit
unfoldable pub all_digits : List ℕ → Bool
all_digits [] = true
all_digits (x ∷ xs) = leb 48 x && (leb x 57 && all_digits xs)

-- Rule 1: a name cut at the place `dot`: a bit, if the word is not empty and the rest is one or more digits
abbrev pub bit_at : List ℕ → ℕ → Option ℕ
bit_at s dot = cond (ltb 0 dot && (ltb (dot + 1) (length s) && all_digits (drop (dot + 1) s))) (Some dot) None

-- Rule 1: cut at the last dot. A name without a dot has the place 0, as one whose only dot stands first: neither has a word
unfoldable pub split_bit : List ℕ → Option ℕ
split_bit s = bit_at s (last_dot 0 0 s)

-- Rule 1: a bit exists
abbrev pub is_bit : Option ℕ → Bool
is_bit None = false
is_bit (Some w) = true
