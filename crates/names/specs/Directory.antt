-- Rule 1 and checks 1 to 4: a directory, over the most names and the longest name that it may have.
use Rattle.std.specs.Prelude.{Bool, true, cond, not, ◌&&◌, ◌||◌, List, [], ◌∷◌, ℕ, ◌-◌, ltb, leb, eqb, length, take, drop, get_or}
use Rattle.names.specs.Order.{compared, is_less}

-- Check 1: the most names
abbrev pub max_names : ℕ
max_names = 120

-- Check 2: the longest name
abbrev pub max_name_length : ℕ
max_name_length = 40

-- Rule 1: the bytes from one place to another
abbrev pub piece : ℕ → ℕ → List ℕ → List ℕ
piece from end s = take (end - from) (drop from s)

-- Rule 1: a buffer cut at end places: each name goes from the end place before it, the first from `at`, to its own
unfoldable pub cut : ℕ → List ℕ → List ℕ → List (List ℕ)
cut at [] s = []
cut at (e ∷ es) s = piece at e s ∷ cut e es s

-- Rule 1: the names of a directory, by rank
abbrev pub names_of : List ℕ → List ℕ → List (List ℕ)
names_of s ends = cut 0 ends s

-- Rule 1: a tag's name; no bytes for a tag past the last
abbrev pub name_at : List ℕ → List ℕ → ℕ → List ℕ
name_at s ends tag = get_or (names_of s ends) tag []

-- Check 1: a bad count: 0, or above the most
abbrev pub bad_count : ℕ → List ℕ → Bool
bad_count most ends = eqb (length ends) 0 || ltb most (length ends)

-- Check 2: good end places after the place `at`: none falls back, passes the buffer, or gives length 0 or above the longest, and the last is the buffer's length
unfoldable pub good_ends : ℕ → ℕ → List ℕ → ℕ → Bool
good_ends long at [] size = eqb at size
good_ends long at (e ∷ es) size = leb at e && (leb e size && (ltb 0 (e - at) && (leb (e - at) long && good_ends long e es size)))

-- Check 3: good bytes: none is outside 33 to 126
unfoldable pub good_bytes : List ℕ → Bool
good_bytes [] = true
good_bytes (b ∷ bs) = leb 33 b && (leb b 126 && good_bytes bs)

-- Check 3: names of good bytes
unfoldable pub good_names : List (List ℕ) → Bool
good_names [] = true
good_names (n ∷ ns) = good_bytes n && good_names ns

-- Check 4: rising names after the name `before`: each is above its forerunner
unfoldable pub rising_from : List ℕ → List (List ℕ) → Bool
rising_from before [] = true
rising_from before (n ∷ ns) = is_less (compared before n) && rising_from n ns

-- Check 4: rising names: each but the first is above its forerunner
unfoldable pub rising : List (List ℕ) → Bool
rising [] = true
rising (n ∷ ns) = rising_from n ns

-- Checks 1 to 4: the number of the lowest that is met: a bad count, end places that are not good, a byte that is not, names that do not rise; else 0
unfoldable pub directory_check : ℕ → ℕ → List ℕ → List ℕ → ℕ
directory_check most long s ends =
    cond (bad_count most ends) 1 (cond (not (good_ends long 0 ends (length s))) 2 (cond (not (good_names (names_of s ends))) 3 (cond (not (rising (names_of s ends))) 4 0)))
