-- Rule 1: byte order and ASCII lower case.
use Rattle.std.specs.Prelude.{Bool, true, false, cond, ◌&&◌, List, map, [], ◌∷◌, ℕ, ◌+◌, ltb, leb}
use Rattle.std.specs.declared.cmp.Ordering.{Ordering}
use Rattle.std.specs.declared.cmp.Ordering.TheVariants.{Less, Equal, Greater}

-- Rule 1: byte order. The first byte that differs decides; a name that another starts with is below it
unfoldable pub compared : List ℕ → List ℕ → Ordering
compared [] [] = Equal
compared [] (y ∷ ys) = Less
compared (x ∷ xs) [] = Greater
compared (x ∷ xs) (y ∷ ys) = cond (ltb x y) Less (cond (ltb y x) Greater (compared xs ys))

-- Rule 1: ASCII lower case. A to Z, 65 to 90, become a to z; no other byte changes
unfoldable pub lower_of : ℕ → ℕ
lower_of b = cond (leb 65 b && leb b 90) (b + 32) b

-- Rule 1: a name in lower case, or as it is
abbrev pub case_of : Bool → List ℕ → List ℕ
case_of true s = map lower_of s
case_of false s = s

-- Rule 1: byte order of two names in lower case
abbrev pub compared_low : List ℕ → List ℕ → Ordering
compared_low a b = compared (case_of true a) (case_of true b)

-- Rule 1: the first of the two compared is below the second
abbrev pub is_less : Ordering → Bool
is_less Less = true
is_less Equal = false
is_less Greater = false

-- Rule 1: the two compared are alike
abbrev pub is_same : Ordering → Bool
is_same Less = false
is_same Equal = true
is_same Greater = false
