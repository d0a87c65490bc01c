use mathlib.Core.Path.{◌≡◌}
use mathlib.Core.Bool.{true}
use Prim.Native.Nat.{min}
use Rattle.results.specs.Results.{result_count, first_ok}
use Rattle.results.proofs.check.check_results.Given as goal

abbrev pub invariant-loop-i : goal.invariant-loop-i
invariant-loop-i l = (l.covered ≡ min l.n (result_count l.results)) × (first_ok l.i l.results ≡ true)
