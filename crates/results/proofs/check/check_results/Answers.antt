-- `results::check::check_results` meets its contract.
use mathlib.Core.Path.{◌≡◌, sym, ◌∙◌}
use mathlib.Core.Bool.{true, false}
use Prim.Native.Nat.{min}
use native.Mathlib.Omega.{arith}
use Rattle.results.specs.Results.{result_count, result_in, result_ok}
use Rattle.results.proofs.ResultLaws.{first_none, first_yes, first_no}
use Rattle.results.proofs.check.check_results.Goals as goal
use Rattle.results.proofs.check.check_results.Goals.{else-n-held, then-n-held}

pub returns-then-not-is_result_ok : goal.returns-then-not-is_result_ok
returns-then-not-is_result_ok c =
    let a = c.args in
    let results = a.results.now in
    let l = c.loop-i in
    let no : result_ok (result_in results l.i) ≡ false = sym c.is_result_ok.ensures ∙ c.if-not-is_result_ok.true in
    sym (first_no results (min a.n (result_count results)) l.i (omega arith) no)

pub loop-i-preserved : goal.loop-i-preserved
loop-i-preserved c =
    let results = c.args.results.now in
    let l = c.loop-i in
    let yes : result_ok (result_in results l.i) ≡ true = sym c.is_result_ok.ensures ∙ c.if-not-is_result_ok.false in
    (l.invariant.0, first_yes results l.i l.invariant.1 yes)

pub loop-i-init : goal.loop-i-init
loop-i-init c =
    let results = c.args.results.now in
    (elim c.if-n-held.branch [ then-n-held w ↦ omega (arith, w.covered-is) | else-n-held w ↦ omega (arith, w.covered-is) ], first_none results)
