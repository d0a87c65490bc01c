-- Rule 9: the kinds of answers.
use Rattle.std.specs.Prelude.{Bool, true, false, ◌&&◌, cond, ℕ, eqb, ltb, Some, None}
use Rattle.step_checks.specs.declared.answer.Kind.{Kind}
use Rattle.step_checks.specs.declared.answer.Kind.TheVariants.{Begin, Opened, NotOpened, Version, Results, Lost, Written, Refused, Descriptions, NotDescribed, Waited, Taken, Unknown}

-- an error's number and 1, as in a record: 1 NotFound, 2 Access, the code and 3 for another
abbrev pub is_error : ℕ → Bool
is_error n = ltb 0 n && ltb n 0x1_0003

-- The kind that numbers say: its own, a number (of a version, or of an error), and the number of a message.
-- 0 begin; 1 opened, 2 not opened; 3 version null, 4 version; 5 results, 6 lost; 7 written, 8 refused with its error; 9 descriptions, 10 none read; 11 waited; 12 taken.
unfoldable pub kind_from : ℕ → ℕ → ℕ → Kind
kind_from kind number message =
    cond (eqb kind 0) Begin
    (cond (eqb kind 1) Opened
    (cond (eqb kind 2) NotOpened
    (cond (eqb kind 3) (Version None)
    (cond (eqb kind 4) (Version (Some number))
    (cond (eqb kind 5) Results
    (cond (eqb kind 6) Lost
    (cond (eqb kind 7) Written
    (cond (eqb kind 8 && is_error number) (Refused number message)
    (cond (eqb kind 9) Descriptions
    (cond (eqb kind 10) NotDescribed
    (cond (eqb kind 11) Waited
    (cond (eqb kind 12) Taken Unknown))))))))))))

abbrev pub is_opened : Kind → Bool
is_opened Opened = true
is_opened k = false

abbrev pub is_version : Kind → Bool
is_version (Version v) = true
is_version k = false

abbrev pub is_results : Kind → Bool
is_results Results = true
is_results k = false

abbrev pub is_lost : Kind → Bool
is_lost Lost = true
is_lost k = false

abbrev pub is_descriptions : Kind → Bool
is_descriptions Descriptions = true
is_descriptions k = false
