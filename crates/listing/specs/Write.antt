-- The round lister: the lines that it writes.
use Rattle.std.specs.Prelude.{⊤, ℕ, zero, suc, ◌+◌, ◌/◌, ◌%◌, ◌≤◌, ◌<◌, Bool, cond, List, map, [], ◌∷◌, ◌++◌, ◌≡◌, ltb, length, Result, MatchResult}
use Rattle.listing.specs.declared.write.Full.{Full}

-- The digits of n, at most `most` of them before the last.
unfoldable pub digits_of : ℕ → ℕ → List ℕ
digits_of zero n = (48 + n) ∷ []
digits_of (suc most) n =
    let more = digits_of most (n / 10) ++ ((48 + n % 10) ∷ []) in
    cond (ltb n 10) ((48 + n) ∷ []) more

-- Numbers without leading zeros: n in decimal, the highest digit first. No number has more digits before the last than it counts.
unfoldable pub decimal_of : ℕ → List ℕ
decimal_of n = digits_of n n

abbrev pub spaced : List (List ℕ) → List ℕ
spaced [] = []
spaced (f ∷ fs) = 32 ∷ (f ++ spaced fs)

-- Fields one space apart.
unfoldable pub joined : List (List ℕ) → List ℕ
joined [] = []
joined (f ∷ fs) = f ++ spaced fs

-- Numbers as the fields of a line.
abbrev pub fields_of : List ℕ → List ℕ
fields_of ns = joined (map decimal_of ns)

-- Time, boundary 1 or 0, count, tags.
abbrev pub numbers_of : ℕ → Bool → ℕ → List ℕ → List ℕ
numbers_of ms boundary count tags = ms ∷ cond boundary 1 0 ∷ count ∷ tags

-- The line of a round: its tags in list order, and a line feed (10) at the end.
unfoldable pub line_of : ℕ → Bool → List ℕ → List ℕ
line_of ms boundary tags = fields_of (numbers_of ms boundary (length tags) tags) ++ (10 ∷ [])

-- The bytes stand behind those that stood in a line of `room` places. Where they do not all fit, that is answered, and the line is as it was.
abbrev pub Put : ℕ → List ℕ → List ℕ → List ℕ → Result ⊤ Full → Type 0
Put room old new bytes r = MatchResult r (λ _. (new ≡ old ++ bytes) × (length old + length bytes ≤ room)) (λ _. (new ≡ old) × (room < length old + length bytes))
