-- `results::result::result_at` meets its contract.
use mathlib.Core.Path.{sym, ◌∙◌}
use Rattle.results.specs.Results.{result_in}
use lib.ListN.{length}
use borrow.Author.Tests.{lt-ltb, le-ltb}
use Prim.Native.Nat.{◌/◌}
use native.Mathlib.Omega.{arith}
use Rattle.results.proofs.result.result_at.Goals as goal

pub returns-then-s-i : goal.returns-then-s-i
unfolding result_in
returns-then-s-i c =
    let a = c.args in
    rw (le-ltb a.i (length a.s.now / 32) (omega arith))

pub returns-in-None : goal.returns-in-None
unfolding result_in
returns-in-None c =
    let a = c.args in
    let e = rw (c.cell.ensures, c.cell-2.ensures) at c.error_from.ensures in
    simp (lt-ltb a.i (length a.s.now / 32) (omega arith), sym e ∙ c.in-None.is, c.value_from.ensures, c.cell-in-None.ensures, c.cell-in-None-2.ensures)

pub returns-in-Some : goal.returns-in-Some
unfolding result_in
returns-in-Some c =
    let a = c.args in
    let e = rw (c.cell.ensures, c.cell-2.ensures) at c.error_from.ensures in
    simp (lt-ltb a.i (length a.s.now / 32) (omega arith), sym e ∙ c.in-Some.is)
