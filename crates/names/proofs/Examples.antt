-- Worked examples, by computation.
use mathlib.Core.Path.{◌≡◌, refl}
use mathlib.Core.List.{List, [], ◌∷◌}
use Prim.Native.Nat.{ℕ}
use Rattle.std.specs.Prelude.{Some, None}
use Rattle.names.specs.Order.{compared, lower_of}
use Rattle.names.specs.Bits.{last_dot, all_digits, split_bit}
use Rattle.names.specs.Directory.{cut, names_of, good_ends, good_bytes, good_names, rising_from, rising, directory_check, max_names, max_name_length}
use Rattle.names.specs.Keys.{below, key_of, find, word_of}

-- A, C, b, d
four : List ℕ
four = 65 ∷ 67 ∷ 98 ∷ 100 ∷ []

good : directory_check max_names max_name_length four (1 ∷ 2 ∷ 3 ∷ 4 ∷ []) ≡ 0
unfolding four directory_check good_ends good_names good_bytes cut rising rising_from compared
good = refl

none : directory_check max_names max_name_length four [] ≡ 1
unfolding four directory_check
none = refl

-- four names where three are the most
many : directory_check 3 max_name_length four (1 ∷ 2 ∷ 3 ∷ 4 ∷ []) ≡ 1
unfolding four directory_check
many = refl

-- the last end place is not the buffer's length
short : directory_check max_names max_name_length four (1 ∷ 2 ∷ 3 ∷ []) ≡ 2
unfolding four directory_check good_ends
short = refl

-- a name of two bytes where one is the most; the space in it is not looked at
long : directory_check max_names 1 (65 ∷ 32 ∷ []) (2 ∷ []) ≡ 2
unfolding directory_check good_ends
long = refl

-- a space, and a name that does not rise
space : directory_check max_names max_name_length (66 ∷ 32 ∷ []) (1 ∷ 2 ∷ []) ≡ 3
unfolding directory_check good_ends good_names good_bytes cut rising rising_from compared
space = refl

-- B twice
twice : directory_check max_names max_name_length (66 ∷ 66 ∷ []) (1 ∷ 2 ∷ []) ≡ 4
unfolding directory_check good_ends good_names good_bytes cut rising rising_from compared
twice = refl

-- in lower case a, b, c, d: the keys of C and of b
keys : (key_of (names_of four (1 ∷ 2 ∷ 3 ∷ 4 ∷ [])) 1 ≡ 2) × (key_of (names_of four (1 ∷ 2 ∷ 3 ∷ 4 ∷ [])) 2 ≡ 1)
unfolding four cut below compared lower_of
keys = (refl, refl)

-- W.1, .1, W., W.a, W.1.2, a
bits : (split_bit (87 ∷ 46 ∷ 49 ∷ []) ≡ Some 1)
    × ((split_bit (46 ∷ 49 ∷ []) ≡ None)
    × ((split_bit (87 ∷ 46 ∷ []) ≡ None)
    × ((split_bit (87 ∷ 46 ∷ 97 ∷ []) ≡ None) × ((split_bit (87 ∷ 46 ∷ 49 ∷ 46 ∷ 50 ∷ []) ≡ Some 3) × (split_bit (97 ∷ []) ≡ None)))))
unfolding split_bit last_dot all_digits
bits = (refl, (refl, (refl, (refl, (refl, refl)))))

-- W and W.1: the word of tag 1 is tag 0
word : word_of (names_of (87 ∷ 87 ∷ 46 ∷ 49 ∷ []) (1 ∷ 4 ∷ [])) 1 ≡ Some 0
unfolding cut split_bit last_dot all_digits find compared
word = refl

-- W.1 alone: its word is outside the directory
outside : word_of (names_of (87 ∷ 46 ∷ 49 ∷ []) (3 ∷ [])) 0 ≡ None
unfolding cut split_bit last_dot all_digits find compared
outside = refl
