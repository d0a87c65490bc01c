-- Document 01's example of the round lister: lines of it that are read, and all that are written.
use mathlib.Core.Path.{◌≡◌, refl}
use mathlib.Core.Bool.{true, false}
use mathlib.Core.List.{[], ◌∷◌}
use Rattle.listing.specs.Line.{fields, is_number, as_options, as_name, as_set, as_round, by_letter, parsed}
use Rattle.listing.specs.Write.{digits_of, decimal_of, joined, line_of}
use Rattle.listing.specs.declared.line.Line.TheVariants.{Options, Name, Set, Round, Other}

-- `o 1000 3000 0`
read_options : parsed (111 ∷ 32 ∷ 49 ∷ 48 ∷ 48 ∷ 48 ∷ 32 ∷ 51 ∷ 48 ∷ 48 ∷ 48 ∷ 32 ∷ 48 ∷ []) ≡ Options 1000 3000 0
unfolding fields is_number as_options by_letter
read_options = refl

-- `n A`
read_name : parsed (110 ∷ 32 ∷ 65 ∷ []) ≡ Name
unfolding fields as_name by_letter
read_name = refl

-- `s 0 3 2`
read_set : parsed (115 ∷ 32 ∷ 48 ∷ 32 ∷ 51 ∷ 32 ∷ 50 ∷ []) ≡ Set 0 3 2
unfolding fields is_number as_set by_letter
read_set = refl

-- `c 2500`
read-round : parsed (99 ∷ 32 ∷ 50 ∷ 53 ∷ 48 ∷ 48 ∷ []) ≡ Round 2500
unfolding fields is_number as_round by_letter
read-round = refl

-- `c  0`, with two spaces
read_other : parsed (99 ∷ 32 ∷ 32 ∷ 48 ∷ []) ≡ Other
unfolding fields is_number as_round by_letter
read_other = refl

-- `0 1 4 0 2 1 3`
written_0 : line_of 0 true (0 ∷ 2 ∷ 1 ∷ 3 ∷ []) ≡ 48 ∷ 32 ∷ 49 ∷ 32 ∷ 52 ∷ 32 ∷ 48 ∷ 32 ∷ 50 ∷ 32 ∷ 49 ∷ 32 ∷ 51 ∷ 10 ∷ []
unfolding digits_of decimal_of joined line_of
written_0 = refl

-- `400 0 0`
written_400 : line_of 400 false [] ≡ 52 ∷ 48 ∷ 48 ∷ 32 ∷ 48 ∷ 32 ∷ 48 ∷ 10 ∷ []
unfolding digits_of decimal_of joined line_of
written_400 = refl

-- `500 1 2 0 1`
written_500 : line_of 500 true (0 ∷ 1 ∷ []) ≡ 53 ∷ 48 ∷ 48 ∷ 32 ∷ 49 ∷ 32 ∷ 50 ∷ 32 ∷ 48 ∷ 32 ∷ 49 ∷ 10 ∷ []
unfolding digits_of decimal_of joined line_of
written_500 = refl

-- `1500 1 2 0 3`
written_1500 : line_of 1500 true (0 ∷ 3 ∷ []) ≡ 49 ∷ 53 ∷ 48 ∷ 48 ∷ 32 ∷ 49 ∷ 32 ∷ 50 ∷ 32 ∷ 48 ∷ 32 ∷ 51 ∷ 10 ∷ []
unfolding digits_of decimal_of joined line_of
written_1500 = refl

-- `2500 1 2 0 2`
written_2500 : line_of 2500 true (0 ∷ 2 ∷ []) ≡ 50 ∷ 53 ∷ 48 ∷ 48 ∷ 32 ∷ 49 ∷ 32 ∷ 50 ∷ 32 ∷ 48 ∷ 32 ∷ 50 ∷ 10 ∷ []
unfolding digits_of decimal_of joined line_of
written_2500 = refl
