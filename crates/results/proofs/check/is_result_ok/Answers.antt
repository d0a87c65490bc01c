-- `results::check::is_result_ok` meets its contract.
use mathlib.Core.Path.{ap, sym, ◌∙◌}
use mathlib.Core.Logic.{inl, inr}
use lib.Ieee.{binary64, of_bits}
use lib.Ieee.Scale.{finite}
use Rattle.results.proofs.ResultLaws.{ok_failed, ok_no_float, ok_float}
use Rattle.results.proofs.check.is_result_ok.Goals as goal

pub returns-then-failed : goal.returns-then-failed
returns-then-failed c =
    let a = c.args in
    elim c.then-failed.either [
      | inl failed ↦ sym (ok_failed a.results.now a.i c.requires (λ e. failed (c.cell-failed.ensures ∙ e)))
      | inr other ↦ sym (ok_no_float a.results.now a.i c.requires (sym c.cell-failed.ensures ∙ other.0) (λ e. other.1 (c.cell-float.ensures ∙ e)))
    ]

pub returns : goal.returns
returns c =
    let a = c.args in
    let none = sym c.cell-failed.ensures ∙ c.if-failed.false in
    let float = sym c.cell-float.ensures ∙ c.if-not-float.false in
    c.is_finite.ensures
    ∙ ap finite (c.float_of_word.ensures ∙ ap (of_bits binary64) c.cell.ensures)
    ∙ sym (ok_float a.results.now a.i c.requires none float)
