-- Where two lists part.
use Rattle.std.specs.Prelude.{List, [], ◌∷◌, cond, ℕ, suc, eqb}

-- the first place at which they differ, or the end of the shorter one, counted from i
unfoldable pub parting : ℕ → List ℕ → List ℕ → ℕ
parting i [] b = i
parting i (x ∷ a) [] = i
parting i (x ∷ a) (y ∷ b) = cond (eqb x y) (parting (suc i) a b) i

-- the first place with another byte than b, or the end, counted from i
unfoldable pub unlike : ℕ → List ℕ → ℕ → ℕ
unlike i [] b = i
unlike i (x ∷ s) b = cond (eqb x b) (unlike (suc i) s b) i
