-- A value that comes again, seen by its words.
use mathlib.Core.Path.{◌≡◌, refl, ap, sym, ◌∙◌}
use mathlib.Core.Bool.{Bool, true, false, cond}
use Prim.Native.Nat.{ℕ}
use native.Mathlib.Omega.{arith}
use borrow.Author.Tests.{eq-eqb, ne_eqb}
use lib.Dec.{eqb, ltb}
use lib.IntN.{ℤ, pos, negsuc}
use mir.Val.{to_z}
use mir.Syntax.{w64}
use Rattle.std.specs.Prelude.{Option, Some, None, Ok}
use Rattle.values.specs.Value.{same_value}
use Rattle.values.specs.Entry.{TagResult, merged}
use Rattle.values.specs.declared.value.Value.TheVariants.{Null, Bool as Flag, Int}
use Rattle.values.specs.declared.entry.Quality.TheVariants.{Good}
use Rattle.words.specs.Value.{value_from}
use Rattle.words.specs.Entry.{entry_from, held_from}
use Rattle.words.specs.declared.entry.EntryWords.{EntryWords}
use Rattle.table.specs.declared.tag.Tag.{Tag}
use Rattle.apply.specs.Apply.{is_same_as}
use Rattle.apply.specs.Steps.{GoodAs, Repeated}
use Rattle.values.specs.declared.entry.Entry.{Entry}

pub not_so : {A : Type 0} → false ≡ true → A
not_so e = absurd (let z : ◌≡◌ {A = ℕ} 0 1 = cc in omega arith)

-- a value that is no float is the same as itself
own_same : (b c p : Bool) (n : ℤ) → same_value (cond b (Flag p) (cond c (Int n) Null)) (cond b (Flag p) (cond c (Int n) Null)) ≡ true
own_same true c true n = refl
own_same true c false n = refl
own_same false true p (pos n) = eq-eqb n n refl
own_same false true p (negsuc n) = eq-eqb n n refl
own_same false false p n = refl

pub no_float : (kind word : ℕ) → (kind ≡ 3 → ⊥) → same_value (value_from kind word) (value_from kind word) ≡ true
no_float kind word h = rw (ne_eqb kind 3 h) (own_same (eqb kind 1) (eqb kind 2) (ltb 0 word) (to_z w64 word))

module _ (x : Tag) (w : EntryWords) (kind word : ℕ) (held : held_from w ≡ x.cached) (good : GoodAs w kind word) where
  good_held : x.cached ≡ Some (record { value = value_from kind word; quality = Good; t = to_z w64 w.t; error = None })
  unfolding entry_from
  good_held = sym held ∙ rw (good.held_is, good.error_is, good.kind_is, good.word_is)

  pub repeated : (r : TagResult)
      → eqb x.tier 0 ≡ false
      → same_value (value_from kind word) (value_from kind word) ≡ true
      → r ≡ Ok (value_from kind word)
      → Repeated x r
  repeated r tiered same value = record {
    tiered = tiered;
    good = λ t. ap (λ (r : TagResult). (merged x.cached r t).quality) value;
    known = λ t. ap (λ (h : Option Entry). is_same_as h (merged h r t)) good_held ∙ rw (value, same);
  }
