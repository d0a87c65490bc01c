-- A lent run of records after it was filled, and the answer, for any type of record and any room.
use Rattle.std.specs.Prelude.{⊤, ℕ, cond, List, ◌++◌, ltb, length, take, drop, Result, Ok, Err}
use Rattle.runs.specs.declared.TooShort.{TooShort}

-- the first n places are those of `from`, and the places past them keep their contents
abbrev pub over : {X : Type 0} → ℕ → List X → List X → List X
over n from out = take n from ++ drop n out

-- a run of fewer than k places is left as it was
abbrev pub filled : {X : Type 0} → ℕ → ℕ → List X → List X → List X
filled k n from out = cond (ltb (length out) k) out (over n from out)

-- the refusal of a run of fewer than k places
abbrev pub answer : {X : Type 0} → ℕ → List X → Result ⊤ TooShort
answer k out = cond (ltb (length out) k) (Err record {}) (Ok tt)
