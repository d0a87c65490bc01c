-- The round lister: the lines that it reads.
use Rattle.std.specs.Prelude.{ℕ, suc, ◌+◌, ◌*◌, ◌-◌, Bool, true, false, cond, ◌&&◌, List, [], ◌∷◌, leb, eqb, length, get_or, Option, Some, None}
use Rattle.listing.specs.declared.line.Line.{Line}
use Rattle.listing.specs.declared.line.Line.TheVariants.{Options, Name, Set, Round, Other}

abbrev pub in_front : ℕ → List (List ℕ) → List (List ℕ)
in_front b [] = (b ∷ []) ∷ []
in_front b (f ∷ fs) = (b ∷ f) ∷ fs

-- Fields one space apart: the line cut at every space (32), so that two spaces together have an empty field between them.
unfoldable pub fields : List ℕ → List (List ℕ)
fields [] = [] ∷ []
fields (b ∷ bs) = cond (eqb b 32) ([] ∷ fields bs) (in_front b (fields bs))

abbrev pub first : List ℕ → List ℕ
first s = get_or (fields s) 0 []

abbrev pub is_digit : ℕ → Bool
is_digit b = leb 48 b && leb b 57

abbrev pub all : {A : Type 0} → (A → Bool) → List A → Bool
all p [] = true
all p (x ∷ xs) = p x && all p xs

-- Numbers of 1 to 15 digits. Zeros may lead.
unfoldable pub is_number : List ℕ → Bool
is_number f = (leb 1 (length f) && leb (length f) 15) && all is_digit f

-- The digits' value, where those before them have the value v.
abbrev pub decimal_after : ℕ → List ℕ → ℕ
decimal_after v [] = v
decimal_after v (d ∷ ds) = decimal_after (v * 10 + (d - 48)) ds

-- The value of digits in decimal, the highest first.
abbrev pub decimal : List ℕ → ℕ
decimal ds = decimal_after 0 ds

-- The first field of s, which stands at place `at`, as a number, with the place after it.
unfoldable pub number_from : ℕ → List ℕ → Option (ℕ × ℕ)
number_from at s = cond (is_number (first s)) (Some (decimal (first s), at + length (first s))) None

-- n fields, each of them a number
abbrev pub are_numbers : ℕ → List (List ℕ) → Bool
are_numbers n fs = all is_number fs && eqb (length fs) n

abbrev pub value : List (List ℕ) → ℕ → ℕ
value fs i = decimal (get_or fs i [])

unfoldable pub three_in : List (List ℕ) → Option (ℕ × ℕ × ℕ)
three_in fs = cond (are_numbers 3 fs) (Some (value fs 0, value fs 1, value fs 2)) None

-- `o` cycle, period, grace: the fields after the letter.
unfoldable pub as_options : List (List ℕ) → Line
as_options fs = cond (are_numbers 3 fs) (Options (value fs 0) (value fs 1) (value fs 2)) Other

-- `n` name. Which names there may be is the directory's to say; here it may be empty.
unfoldable pub as_name : List (List ℕ) → Line
as_name fs = cond (eqb (length fs) 1) Name Other

-- `s` time, tag, tier.
unfoldable pub as_set : List (List ℕ) → Line
as_set fs = cond (are_numbers 3 fs) (Set (value fs 0) (value fs 1) (value fs 2)) Other

-- `c` time.
unfoldable pub as_round : List (List ℕ) → Line
as_round fs = cond (are_numbers 1 fs) (Round (value fs 0)) Other

-- The field is one byte, c.
abbrev pub is_byte : ℕ → List ℕ → Bool
is_byte c [] = false
is_byte c (b ∷ []) = eqb b c
is_byte c (b ∷ d ∷ f) = false

-- The first field is the letter (o is 111, n 110, s 115 and c 99), and it says what the others are.
unfoldable pub by_letter : List (List ℕ) → Line
by_letter [] = Other
by_letter (f ∷ fs) = cond (is_byte 111 f) (as_options fs) (cond (is_byte 110 f) (as_name fs) (cond (is_byte 115 f) (as_set fs) (cond (is_byte 99 f) (as_round fs) Other)))

-- What a line without its line feed says. Every line of another form is one thing, since the first ends the listing.
abbrev pub parsed : List ℕ → Line
parsed line = by_letter (fields line)

-- Each line ended by a line feed (10): the place of the first in s, which stands at place `at`.
unfoldable pub line_end : ℕ → List ℕ → Option ℕ
line_end at [] = None
line_end at (b ∷ bs) = cond (eqb b 10) (Some at) (line_end (suc at) bs)
