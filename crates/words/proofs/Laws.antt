-- The tests of the code on floats and signed integers, as facts of their bits.
use mathlib.Core.Path.{◌≡◌, refl, ap, sym, ◌∙◌}
use mathlib.Core.Bool.{Bool, true, false, not, cond}
use Prim.Native.Nat.{ℕ, ◌+◌, ◌-◌, ◌%◌, ◌≤◌, ◌<◌, ◌^◌}
use native.Mathlib.Omega.{arith}
use lib.Dec.{T}
use lib.IntN.{ℤ, pos, negsuc}
use lib.Signed.{lt_z}
use lib.Ieee.{Float, nan, inf, fin, binary64, ne, is_nan, to_bits, of_bits, nan_bits, div}
use lib.Ieee.Compare.{differs_from_itself, nan_differs}
use lib.Ieee.Bits.{nan_bits_is, nan_bits_above}
use denote.Floats.{passes}
use borrow.Author.Tests.{lt-ltb, le-ltb, ltb-true, ne_eqb}
use native.Mathlib.Nat.{mod-eq_of_lt}
use mir.Val.{SFits, of_z, to_z, bool_byte}
use mir.Syntax.{w64}
use mir.Facts.{to_z_pos, to_z-of_z}
use Rattle.std.specs.Prelude.{Some}
use Rattle.values.specs.Entry.{quality_number}
use Rattle.values.specs.declared.value.Value.{Value}
use Rattle.values.specs.declared.value.Value.TheVariants.{Bool as Flag}
use Rattle.values.specs.declared.error.ErrorKind.TheVariants.{Other}
use Rattle.values.specs.declared.error.TagError.{TagError}
use Rattle.values.specs.declared.entry.Quality.{Quality}
use Rattle.values.specs.declared.entry.Quality.TheVariants.{Good, Bad, Missing, Stale}
use Rattle.values.specs.declared.entry.Entry.{Entry}
use Rattle.words.specs.Value.{value_from, value_words_of}
use Rattle.words.specs.declared.value.ValueWords.{ValueWords}
use Rattle.words.specs.Error.{kind_from, error_from}
use Rattle.words.specs.Entry.{quality_from, entry_from, held_from}
use Rattle.words.specs.declared.entry.EntryWords.{EntryWords}

pub nan_bits_lem : (x : Float) → ne x x ≡ true → 0x7ff8_0000_0000_0000 ≡ to_bits binary64 x
unfolding to_bits
nan_bits_lem x e = rw (differs_from_itself x (passes _ e))

pub no_nan : (x : Float) → ne x x ≡ false → T (not (is_nan x))
unfolding is_nan
no_nan nan e = let z : ◌≡◌ {A = ℕ} 0 1 = cc nan_differs in omega arith
no_nan (inf s) e = tt
no_nan (fin s m k) e = tt

nan_is : (x : Float) → is_nan x ≡ true → nan ≡ x
unfolding is_nan
nan_is nan e = refl
nan_is (inf s) e = absurd (let z : ◌≡◌ {A = ℕ} 0 1 = cc in omega arith)
nan_is (fin s m k) e = absurd (let z : ◌≡◌ {A = ℕ} 0 1 = cc in omega arith)

pub nan_of : (n : ℕ) → 0x7ff0_0000_0000_0000 < n % 0x8000_0000_0000_0000 → div binary64 (of_bits binary64 0) (of_bits binary64 0) ≡ of_bits binary64 n
unfolding div of_bits
nan_of n h = nan_is (of_bits binary64 n) (sym (nan_bits_is binary64 n) ∙ nan_bits_above binary64 n ∙ lt-ltb _ _ h)

pub no_nan_of : (n : ℕ) → n % 0x8000_0000_0000_0000 ≤ 0x7ff0_0000_0000_0000 → T (not (nan_bits binary64 n))
no_nan_of n h = passes _ (ap not (nan_bits_above binary64 n ∙ le-ltb _ _ h))

-- An i64 below zero: the bits of !x are those of a number that is not
pub neg_flip : (x : ℤ) → SFits w64 x → lt_z x (pos 0) ≡ true → to_z w64 (18446744073709551615 - of_z w64 x) ≡ pos (18446744073709551615 - of_z w64 x)
neg_flip (pos n) f e = absurd (omega (arith, ltb-true n 0 e))
neg_flip (negsuc n) f e = let h : n < 2 ^ 63 = f.sfits in to_z_pos w64 (omega arith)

pub neg_small : (x : ℤ) → SFits w64 x → of_z w64 x < 2 ^ 64
neg_small (pos n) f = let h : n < 2 ^ 63 = f.sfits in omega arith
neg_small (negsuc n) f = omega arith

pub pos_same : (x : ℤ) → SFits w64 x → lt_z x (pos 0) ≡ false → to_z w64 (of_z w64 x) ≡ pos (of_z w64 x)
pos_same (pos n) f e = let h : n < 2 ^ 63 = f.sfits in to_z_pos w64 (omega arith)
pos_same (negsuc n) f e = absurd (let z : ◌≡◌ {A = ℕ} 0 1 = cc in omega arith)

-- A signed test reads the number back from its bits
pub signed_test : (x : ℤ) (b : Bool) → SFits w64 x → lt_z (to_z w64 (of_z w64 x)) (pos 0) ≡ b → lt_z x (pos 0) ≡ b
signed_test x b f e = ap (λ (z : ℤ). lt_z z (pos 0)) (sym (to_z-of_z f)) ∙ e

-- A flag as a number is 1 for true and 0 for false.
pub flag_word : (b : Bool) → bool_byte b ≡ cond b 1 0
flag_word true = refl
flag_word false = refl

-- Such a word holds the flag's value, and is the value's own.
pub flag_value : (b : Bool) (w : ℕ) (v : Value) → v ≡ Flag b → w ≡ cond b 1 0 → (value_from 1 w ≡ v) × (◌≡◌ {A = ValueWords} (record { kind = 1; word = w }) (value_words_of v))
flag_value true w v f e = (rw (f, e), rw (f, e))
flag_value false w v f e = (rw (f, e), rw (f, e))

-- A code's word holds the code.
pub kind_other : (code : ℕ) → code < 0x1_0000 → kind_from (code + 3) ≡ Other code
kind_other code h =
    let less : code + 3 - 3 ≡ code = omega arith in
    rw (ne_eqb (code + 3) 2 (λ e. omega arith), le-ltb (code + 3) 3 (omega arith), less, mod-eq_of_lt h)

-- Words that hold an error's parts hold the error.
pub error_coded : (x : TagError) (kind : ℕ) → 0 < kind → kind_from kind ≡ x.kind → x.message < 0x1_0000_0000 → error_from kind x.message ≡ Some x
error_coded x kind some k m = rw (ne_eqb kind 0 (λ e. omega arith), k, mod-eq_of_lt m)

-- A quality's word holds the quality, and is not 0.
pub quality_coded : (q : Quality) → quality_from (quality_number q + 1) ≡ q
quality_coded Good = refl
quality_coded Bad = refl
quality_coded Missing = refl
quality_coded Stale = refl

-- Words that hold an entry's parts hold the entry.
pub entry_coded : (e : Entry) (w : EntryWords)
    → w.held ≡ quality_number e.quality + 1 → value_from w.kind w.word ≡ e.value → to_z w64 w.t ≡ e.t → error_from w.error w.message ≡ e.error
    → held_from w ≡ Some e
unfolding entry_from
entry_coded e w q v t f = rw (ne_eqb w.held 0 (λ z. omega arith), q, quality_coded e.quality, v, t, f)
