-- A list of tag numbers in memory: the first half is the count, and the halves after it are the places.
use Rattle.std.specs.Prelude.{Bool, true, false, cond, List, [], ◌∷◌, ◌++◌, ℕ, ◌-◌, ◌/◌, min, eqb, ltb, leb, length, get_or, take, drop}
use Rattle.memory.specs.Halves.{halves_in}

-- a count above the places there are stands for all of them
abbrev pub list_of : List ℕ → List ℕ
list_of hs = take (get_or hs 0 0) (drop 1 hs)

unfoldable pub list_in : List ℕ → List ℕ
list_in bs = list_of (halves_in bs)

-- how many tags can be held; the count is a half too
abbrev pub room : List ℕ → ℕ
room bs = min (length bs / 2 - 1) 65535

-- as many tags of a list as there is room for; the lists of an engine have room for every tag of its directory, so that none is ever cut
abbrev pub fitted : ℕ → List ℕ → List ℕ
fitted room l = take room l

-- one tag more, where there is room for n
abbrev pub pushed : ℕ → List ℕ → ℕ → List ℕ
pushed n xs k = cond (ltb (length xs) n) (xs ++ (k ∷ [])) xs

-- one tag more, before the one at p, where there is room for n; p is at most the length
abbrev pub inserted_at : ℕ → ℕ → ℕ → List ℕ → List ℕ
inserted_at n p k xs = cond (leb p (length xs)) (cond (ltb (length xs) n) (take p xs ++ (k ∷ drop p xs)) xs) xs

abbrev pub member : ℕ → List ℕ → Bool
member k [] = false
member k (x ∷ xs) = cond (eqb k x) true (member k xs)
