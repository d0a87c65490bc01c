-- A list is empty where its length is 0.
use mathlib.Core.Path.{◌≡◌, refl}
use mathlib.Core.Bool.{true, false}
use mathlib.Core.List.{List, [], ◌∷◌}
use native.Mathlib.Omega.{arith}
use lib.ListN.{length}
use Rattle.replies.specs.Losing.{is_empty}

pub empty_is : {A : Type 0} (l : List A) → length l ≡ 0 → is_empty l ≡ true
empty_is [] h = refl
empty_is (x ∷ l) h = absurd (omega (arith, h))

pub no_items : {A : Type 0} (l : List A) → length l ≡ 0 → l ≡ []
no_items [] h = refl
no_items (x ∷ l) h = absurd (omega (arith, h))

pub some_is : {A : Type 0} (l : List A) → (length l ≡ 0 → ⊥) → is_empty l ≡ false
some_is [] h = absurd (h refl)
some_is (x ∷ l) h = refl
