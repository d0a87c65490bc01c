-- Values as two words: a kind (0 null, 1 bool, 2 integer, 3 float) and its bits.
use Rattle.std.specs.Prelude.{cond, ℕ, eqb, ltb}
use Rattle.std.specs.Float.{binary64}
use Rattle.std.specs.Float.Ieee.{of_bits, to_bits}
use Rattle.std.proofs.Common.{to_z, of_z}
use Rattle.std.specs.Int.{w64}
use Rattle.values.specs.declared.value.Value.{Value}
use Rattle.values.specs.declared.value.Value.TheVariants.{Null, Bool, Int, Float}
use Rattle.words.specs.declared.value.ValueWords.{ValueWords}

-- the value that two words hold; any word but 0 is true
abbrev pub value_from : ℕ → ℕ → Value
value_from kind word =
    cond (eqb kind 1) (Bool (ltb 0 word)) (cond (eqb kind 2) (Int (to_z w64 word)) (cond (eqb kind 3) (Float (of_bits binary64 word)) Null))

-- the words of a value; true is 1
abbrev pub value_words_of : Value → ValueWords
value_words_of Null = record { kind = 0; word = 0 }
value_words_of (Bool b) = record { kind = 1; word = cond b 1 0 }
value_words_of (Int n) = record { kind = 2; word = of_z w64 n }
value_words_of (Float x) = record { kind = 3; word = to_bits binary64 x }
