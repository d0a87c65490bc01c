use mathlib.Core.Path.{◌≡◌}
use mathlib.Core.Bool.{Bool}
use mathlib.Core.List.{List, []}
use Prim.Native.Nat.{ℕ, ◌<◌}
use lib.ListN.{length, get_or, drop}
use Rattle.settings.specs.Records.{every}
use Rattle.settings.proofs.each.check_each.Given as goal

abbrev pub invariant-loop-i : goal.invariant-loop-i
invariant-loop-i g l =
    (passes : List ℕ → Bool) (records : List (List ℕ)) → length records ≡ l.n
    → ((i : ℕ) (r : Bool) → i < l.n → goal.F-post g l.test i r → r ≡ passes (get_or records i []))
    → every passes records ≡ every passes (drop l.i records)
