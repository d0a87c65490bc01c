-- The results of a reply, and check 42.
use Rattle.std.specs.Prelude.{Bool, true, ◌&&◌, cond, List, ℕ, zero, suc, ◌+◌, ◌*◌, ◌/◌, min, ltb, length, get_or, Ok, Err}
use Rattle.std.specs.Float.Ieee.Scale.{finite}
use Rattle.values.specs.declared.value.Value.{Value}
use Rattle.values.specs.declared.value.Value.TheVariants.{Null, Bool as Flag, Int, Float as Real}
use Rattle.values.specs.Entry.{TagResult, result_of}
use Rattle.words.specs.Value.{value_from}
use Rattle.words.specs.Error.{error_from}
use Rattle.memory.specs.Cells.{cells_in}

-- how many results memory holds; each is four cells
abbrev pub result_count : List ℕ → ℕ
result_count bs = length bs / 32

-- result i: kind and bits of its value, then its error and message; past the end null without an error
unfoldable pub result_in : List ℕ → ℕ → TagResult
result_in bs i =
    cond (ltb i (result_count bs))
    (result_of
    (value_from (get_or (cells_in bs) (4 * i) 0) (get_or (cells_in bs) (4 * i + 1) 0))
    (error_from (get_or (cells_in bs) (4 * i + 2) 0) (get_or (cells_in bs) (4 * i + 3) 0)))
    (Ok Null)

-- Check 42: a float is finite.
abbrev pub value_ok : Value → Bool
value_ok Null = true
value_ok (Flag b) = true
value_ok (Int n) = true
value_ok (Real x) = finite x

-- Check 42: of a reading that failed there is no value to check.
abbrev pub result_ok : TagResult → Bool
result_ok (Ok v) = value_ok v
result_ok (Err e) = true

-- Check 42: each of the first n results.
unfoldable pub first_ok : ℕ → List ℕ → Bool
first_ok zero results = true
first_ok (suc n) results = first_ok n results && result_ok (result_in results n)

-- Check 42: of n results asked for, those that are there; the rest of a long list is ignored.
abbrev pub results_ok : ℕ → List ℕ → Bool
results_ok n results = first_ok (min n (result_count results)) results
