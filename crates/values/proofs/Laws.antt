-- Laws of the definitions of rules 2 and 3.
use mathlib.Core.Path.{◌≡◌, refl, sym, ap}
use mathlib.Core.Bool.{Bool, true, false, ◌&&◌, true≢false}
use Prim.Native.Nat.{ℕ, suc, ◌-◌, ◌^◌, ◌<◌}
use native.Mathlib.Omega.{arith}
use borrow.Author.Tests.{eqb-true, eqb-false, eq-eqb, ne_eqb}
use lib.Dec.{eqb}
use lib.IntN.{ℤ, pos, negsuc}
use mir.Syntax.{w64}
use mir.Val.{SFits, of_z}
use Rattle.std.specs.Prelude.{Option, Some, None}
use Rattle.values.specs.Value.{same_integer}
use Rattle.values.specs.Error.{kind_number, same_error}
use Rattle.values.specs.declared.error.ErrorKind.{ErrorKind}
use Rattle.values.specs.declared.error.ErrorKind.TheVariants.{NotFound, Access, Other}
use Rattle.values.specs.declared.error.TagError.{TagError}

apart : (m n : ℕ) → m < 2 ^ 63 → n < 2 ^ 63 → m ≡ 2 ^ 64 - suc n → ⊥
apart m n f g e = omega arith

same_complement : (m n : ℕ) → m < 2 ^ 63 → n < 2 ^ 63 → 2 ^ 64 - suc m ≡ 2 ^ 64 - suc n → m ≡ n
same_complement m n f g e = omega arith

-- Two integers of 64 bits are equal exactly if their bits are.
pub same_bits : (a b : ℤ) → SFits w64 a → SFits w64 b → eqb (of_z w64 a) (of_z w64 b) ≡ same_integer a b
same_bits (pos m) (pos n) f g = refl
same_bits (pos m) (negsuc n) f g = ne_eqb m (2 ^ 64 - suc n) (apart m n f.sfits g.sfits)
same_bits (negsuc m) (pos n) f g = ne_eqb (2 ^ 64 - suc m) n (λ e. apart n m g.sfits f.sfits (sym e))
same_bits (negsuc m) (negsuc n) f g = go (eqb m n) refl
  where
    go : (t : Bool) → eqb m n ≡ t → eqb (2 ^ 64 - suc m) (2 ^ 64 - suc n) ≡ t
    go true e = eq-eqb (2 ^ 64 - suc m) (2 ^ 64 - suc n) (ap (λ (k : ℕ). 2 ^ 64 - suc k) (eqb-true m n e))
    go false e = ne_eqb (2 ^ 64 - suc m) (2 ^ 64 - suc n) (λ q. eqb-false m n e (same_complement m n f.sfits g.sfits q))

same_kind : (a b : ErrorKind) → kind_number a ≡ kind_number b → a ≡ b
same_kind NotFound NotFound e = refl
same_kind NotFound Access e = absurd (omega arith)
same_kind NotFound (Other n) e = absurd (omega arith)
same_kind Access NotFound e = absurd (omega arith)
same_kind Access Access e = refl
same_kind Access (Other n) e = absurd (omega arith)
same_kind (Other m) NotFound e = absurd (omega arith)
same_kind (Other m) Access e = absurd (omega arith)
same_kind (Other m) (Other n) e = let s : m ≡ n = omega arith in ap Other s

-- Errors that are the same are equal.
pub same_error_equal : (a b : Option TagError) → same_error a b ≡ true → a ≡ b
same_error_equal None None e = refl
same_error_equal None (Some b) e = absurd (true≢false (sym e))
same_error_equal (Some a) None e = absurd (true≢false (sym e))
same_error_equal (Some a) (Some b) e = go (eqb (kind_number a.kind) (kind_number b.kind)) refl (eqb a.message b.message) refl e
  where
    go : (s : Bool) → eqb (kind_number a.kind) (kind_number b.kind) ≡ s → (t : Bool) → eqb a.message b.message ≡ t → (s && t) ≡ true → Some a ≡ Some b
    go true p true q h =
        let k : a.kind ≡ b.kind = same_kind a.kind b.kind (eqb-true _ _ p) in
        let m : a.message ≡ b.message = eqb-true _ _ q in
        rw (k, m)
    go true p false q h = absurd (true≢false (sym h))
    go false p t q h = absurd (true≢false (sym h))

-- An error is the same as itself.
pub same_error_refl : (a : Option TagError) → same_error a a ≡ true
same_error_refl None = refl
same_error_refl (Some a) = rw (eq-eqb (kind_number a.kind) (kind_number a.kind) refl, eq-eqb a.message a.message refl)
