-- What stands in a line as it grows, and what does not fit.
use mathlib.Core.Path.{◌≡◌, ap, sym, ◌∙◌}
use mathlib.Core.Bool.{true≢false}
use mathlib.Core.List.{List, ◌++◌, append_assoc}
use Prim.Native.Nat.{ℕ, ◌+◌, ◌<◌}
use native.Mathlib.Omega.{arith}
use lib.ListN.{length, take, length-append}
use lib.Seq.{take-append_seam}
use Rattle.std.specs.Prelude.{⊤, Result, Ok, Err, IsErr, MatchResult}
use Rattle.listing.specs.declared.write.Full.{Full}
use Rattle.listing.specs.Write.{Put}

-- what stands behind bytes that stand behind others
pub behind : (a b c xs ys : List ℕ) → b ≡ a ++ xs → c ≡ b ++ ys → c ≡ a ++ (xs ++ ys)
behind a b c xs ys p q = q ∙ ap (λ (l : List ℕ). l ++ ys) p ∙ append_assoc a xs ys

module _ (room : ℕ) (a d : List ℕ) where
  -- bytes more behind those that were put, or the line as it was before all of them
  pub put_more : (b c xs ys : List ℕ) (len : ℕ) (r s : Result ⊤ Full) → len ≡ length a → b ≡ a ++ xs → Put room b c ys r → s ≡ r
      → MatchResult r (λ _. d ≡ c) (λ _. d ≡ take len c) → Put room a d (xs ++ ys) s
  put_more b c xs ys len (Ok u) s l p q e h = rw e (h ∙ behind a b c xs ys p q.0, omega (arith, q.1, ap length p, length-append a xs, length-append xs ys))
  put_more b c xs ys len (Err f) s l p q e h =
      rw e (h ∙ ap (take len) (q.0 ∙ p) ∙ rw l (take-append_seam a xs), omega (arith, q.1, ap length p, length-append a xs, length-append xs ys))

  -- what does not fit
  pub put_none : (bytes : List ℕ) (r : Result ⊤ Full) → IsErr r → d ≡ a → room < length a + length bytes → Put room a d bytes r
  put_none bytes (Ok u) e s p = absurd (true≢false (sym e))
  put_none bytes (Err f) e s p = (s, p)
