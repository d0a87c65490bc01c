-- What looks answer, by the length of the memory.
use mathlib.Core.Bool.{cond}
use mathlib.Core.List.{List}
use mathlib.Core.Path.{◌≡◌, refl, ◌∙◌}
use Prim.Native.Nat.{ℕ}
use borrow.Author.Tests.{eq-eqb, ne_eqb}
use lib.Dec.{eqb}
use lib.ListN.{length}
use Rattle.shown.specs.Looks.{listed, short_of}
use Rattle.shown.specs.declared.list_looks.ListLook.{ListLook}
use Rattle.capi.specs.Memory.{not_an_engine, size_check, IsEngine}
use Rattle.capi.specs.Looks.{is_engine, room_check}

pub alien : {A : Type 0} (mem : List ℕ) (x y : A) → (IsEngine mem → ⊥) → cond (is_engine mem) x y ≡ y
alien mem x y h = rw (ne_eqb (size_check (length mem)) 0 h) refl

pub own : {A : Type 0} (mem : List ℕ) (x y : A) → IsEngine mem → cond (is_engine mem) x y ≡ x
own mem x y h = rw (eq-eqb (size_check (length mem)) 0 h) refl

-- ---- a lent list, and how many it has

-- memory of another length: nothing is written
pub list_alien : (mem : List ℕ) (places asked n : ℕ) (out done : List ℕ) (r : ListLook) → (IsEngine mem → ⊥) → r ≡ listed not_an_engine 0
    → (r ≡ listed (room_check mem places asked) n) × (out ≡ cond (eqb (room_check mem places asked) 0) done out)
list_alien mem places asked n out done r h e =
    let code : room_check mem places asked ≡ not_an_engine = alien mem (short_of places asked) not_an_engine h in
    (e ∙ rw code refl, rw code refl)

-- an engine: what its board gives
pub list_own : (mem : List ℕ) (places asked n : ℕ) (out new done : List ℕ) (r : ListLook) → IsEngine mem → r ≡ listed (short_of places asked) n
    → new ≡ cond (eqb (short_of places asked) 0) done out → (r ≡ listed (room_check mem places asked) n) × (new ≡ cond (eqb (room_check mem places asked) 0) done out)
list_own mem places asked n out new done r h e d =
    let code : room_check mem places asked ≡ short_of places asked = own mem (short_of places asked) not_an_engine h in
    (e ∙ rw code refl, d ∙ rw code refl)
