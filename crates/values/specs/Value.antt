-- Rule 2: values.
use Rattle.std.specs.Prelude.{Bool, true, false, eqb, ℤ, pos, negsuc, Float}
use Rattle.std.specs.Bool.{beq}
use Rattle.std.specs.Float.{fin, binary64}
use Rattle.std.specs.Float.Ieee.{of_int, eq}
use Rattle.values.specs.declared.value.Value.{Value}
use Rattle.values.specs.declared.value.Value.TheVariants.{Null, Bool as B, Int as I, Float as F}

-- Equality of integers.
abbrev pub same_integer : ℤ → ℤ → Bool
same_integer (pos m) (pos n) = eqb m n
same_integer (pos m) (negsuc n) = false
same_integer (negsuc m) (pos n) = false
same_integer (negsuc m) (negsuc n) = eqb m n

-- Rule 2: values of two kinds are never the same, so integer 1 and float 1.0 are not. Floats compare as IEEE 754 has it, so 0.0 and -0.0 are.
abbrev pub same_value : Value → Value → Bool
same_value Null Null = true
same_value Null (B b) = false
same_value Null (I n) = false
same_value Null (F y) = false
same_value (B a) Null = false
same_value (B a) (B b) = beq a b
same_value (B a) (I n) = false
same_value (B a) (F y) = false
same_value (I m) Null = false
same_value (I m) (B b) = false
same_value (I m) (I n) = same_integer m n
same_value (I m) (F y) = false
same_value (F x) Null = false
same_value (F x) (B b) = false
same_value (F x) (I n) = false
same_value (F x) (F y) = eq x y

-- Rule 3: integers and floats are numbers; bools aren't, nor is null.
abbrev pub is_number : Value → Bool
is_number Null = false
is_number (B b) = false
is_number (I n) = true
is_number (F x) = true

-- Rule 3: a number as a float. An integer becomes one by nearest, ties to even. What is no number is not asked for; it is 0 here.
abbrev pub number_of : Value → Float
number_of Null = fin false 0 (pos 0)
number_of (B b) = fin false 0 (pos 0)
number_of (I n) = of_int binary64 n
number_of (F x) = x
