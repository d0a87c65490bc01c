-- Rule 2: qualities, entries and readings.
use Rattle.std.specs.Prelude.{Bool, true, false, ◌&&◌, ℕ, eqb, ℤ, Option, Some, None, Result, Ok, Err}
use Rattle.values.specs.Value.{same_value}
use Rattle.values.specs.Error.{same_error}
use Rattle.values.specs.declared.value.Value.{Value}
use Rattle.values.specs.declared.value.Value.TheVariants.{Null}
use Rattle.values.specs.declared.error.ErrorKind.{ErrorKind}
use Rattle.values.specs.declared.error.ErrorKind.TheVariants.{NotFound, Access, Other}
use Rattle.values.specs.declared.entry.Quality.{Quality}
use Rattle.values.specs.declared.entry.Quality.TheVariants.{Good, Bad, Missing, Stale}
use Rattle.values.specs.declared.entry.Entry.{Entry}
use Rattle.values.specs.declared.error.TagError.{TagError}

-- A quality's number.
abbrev pub quality_number : Quality → ℕ
quality_number Good = 0
quality_number Bad = 1
quality_number Missing = 2
quality_number Stale = 3

abbrev pub is_good : Quality → Bool
is_good Good = true
is_good Bad = false
is_good Missing = false
is_good Stale = false

abbrev pub quality_of_kind : ErrorKind → Quality
quality_of_kind NotFound = Missing
quality_of_kind Access = Missing
quality_of_kind (Other code) = Bad

-- What was read of one tag: its value, or why there is none.
abbrev pub TagResult : Type 0
TagResult = Result Value TagError

-- a value and an error: where there is an error the value does not count
abbrev pub result_of : Value → Option TagError → TagResult
result_of v None = Ok v
result_of v (Some e) = Err e

-- Rule 2: no error is good; NotFound and Access are missing; every other kind is bad.
abbrev pub quality_of : Option TagError → Quality
quality_of None = Good
quality_of (Some e) = quality_of_kind e.kind

-- The value that an entry holds, null if there is no entry.
abbrev pub kept : Option Entry → Value
kept None = Null
kept (Some e) = e.value

-- Rule 2: missing carries null; bad keeps the old cached value, null if none.
-- No error is good, and no reading is stale; rule 7 has a stale entry keep its value.
abbrev pub failed_value : Quality → Option Entry → Value
failed_value Good old = kept old
failed_value Bad old = kept old
failed_value Missing old = Null
failed_value Stale old = kept old

-- Rule 2: the entry that a reading at the wall time t makes of the cached one. No error is good, and carries its value (none is null).
abbrev pub merged : Option Entry → TagResult → ℤ → Entry
merged old (Ok v) t = record { value = v; quality = Good; t = t; error = None }
merged old (Err e) t = record { value = failed_value (quality_of (Some e)) old; quality = quality_of (Some e); t = t; error = Some e }

-- Rule 2: `same` compares value, quality and error, and not the time.
abbrev pub same_entry : Entry → Entry → Bool
same_entry a b = eqb (quality_number a.quality) (quality_number b.quality) && (same_error a.error b.error && same_value a.value b.value)
