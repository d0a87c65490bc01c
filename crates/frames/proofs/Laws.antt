-- Where two lists part, and where one has another byte, said of the first hit of a search.
use mathlib.Core.Path.{◌≡◌, refl, ap}
use mathlib.Core.Logic.{◌≢◌}
use mathlib.Core.Bool.{Bool, true, false, cond}
use mathlib.Core.List.{List, [], ◌∷◌, map}
use Prim.Native.Nat.{ℕ, suc, ◌+◌}
use native.Mathlib.Omega.{arith}
use borrow.Author.Tests.{eq-eqb, ne_eqb}
use lib.Dec.{eqb}
use Rattle.std.specs.List.{zip}
use Rattle.frames.specs.Compare.{parting, unlike}

pub unlike-suc : (s : List ℕ) (b i : ℕ) → unlike (suc i) s b ≡ unlike i s b + 1
unfolding unlike
unlike-suc [] b i = omega arith
unlike-suc (x ∷ s) b i = go (eqb x b) (unlike-suc s b (suc i))
  where
    go : (t : Bool) → unlike (suc (suc i)) s b ≡ unlike (suc i) s b + 1 → cond t (unlike (suc (suc i)) s b) (suc i) ≡ cond t (unlike (suc i) s b) i + 1
    go true again = again
    go false again = omega arith

pub unlike_hit : (b x : ℕ) (s : List ℕ) → x ≢ b → unlike 0 (x ∷ s) b ≡ 0
unfolding unlike
unlike_hit b x s h = rw (ne_eqb x b h)

pub unlike_miss : (b x : ℕ) (s : List ℕ) → x ≡ b → unlike 0 (x ∷ s) b ≡ unlike 0 s b + 1
unfolding unlike
unlike_miss b x s h = rw (eq-eqb x b h, unlike-suc s b 0)

-- where the pairs of a row first differ
pub paired : ℕ → List (ℕ × ℕ) → ℕ
paired i ps = parting i (map (λ (p : ℕ × ℕ). p.0) ps) (map (λ (p : ℕ × ℕ). p.1) ps)

pub paired-suc : (i : ℕ) (ps : List (ℕ × ℕ)) → paired (suc i) ps ≡ paired i ps + 1
unfolding parting paired
paired-suc i [] = omega arith
paired-suc i (p ∷ ps) = go (eqb p.0 p.1) (paired-suc (suc i) ps)
  where
    go : (t : Bool) → paired (suc (suc i)) ps ≡ paired (suc i) ps + 1 → cond t (paired (suc (suc i)) ps) (suc i) ≡ cond t (paired (suc i) ps) i + 1
    go true again = again
    go false again = omega arith

pub paired_none : paired 0 [] ≡ 0
unfolding parting paired
paired_none = refl

pub paired_hit : (p : ℕ × ℕ) (ps : List (ℕ × ℕ)) → p.0 ≢ p.1 → paired 0 (p ∷ ps) ≡ 0
unfolding parting paired
paired_hit p ps h = rw (ne_eqb p.0 p.1 h)

pub paired_miss : (p : ℕ × ℕ) (ps : List (ℕ × ℕ)) → p.0 ≡ p.1 → paired 0 (p ∷ ps) ≡ paired 0 ps + 1
unfolding parting paired
paired_miss p ps h = rw (eq-eqb p.0 p.1 h, paired-suc 0 ps)

pub paired-zip : (i : ℕ) (a b : List ℕ) → paired i (zip a b) ≡ parting i a b
unfolding parting paired
paired-zip i [] b = refl
paired-zip i (x ∷ a) [] = refl
paired-zip i (x ∷ a) (y ∷ b) = ap (λ (n : ℕ). cond (eqb x y) n i) (paired-zip (suc i) a b)
