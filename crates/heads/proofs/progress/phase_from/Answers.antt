-- `heads::progress::phase_from` meets its contract.
use mathlib.Core.Path.{refl}
use Rattle.heads.specs.Progress.{phase_from}
use borrow.Author.Tests.{ne_eqb}
use Rattle.heads.proofs.progress.phase_from.Goals as goal

pub returns-in-0 : goal.returns-in-0
unfolding phase_from
returns-in-0 c = simp c.in-0.is refl

pub returns-in-1 : goal.returns-in-1
unfolding phase_from
returns-in-1 c = simp c.in-1.is refl

pub returns-in-2 : goal.returns-in-2
unfolding phase_from
returns-in-2 c = simp c.in-2.is refl

pub returns-in-3 : goal.returns-in-3
unfolding phase_from
returns-in-3 c = simp c.in-3.is refl

pub returns-in-4 : goal.returns-in-4
unfolding phase_from
returns-in-4 c = simp c.in-4.is refl

pub returns-in-5 : goal.returns-in-5
unfolding phase_from
returns-in-5 c = simp c.in-5.is refl

pub returns-in-6 : goal.returns-in-6
unfolding phase_from
returns-in-6 c = simp c.in-6.is refl

pub returns-in-7 : goal.returns-in-7
unfolding phase_from
returns-in-7 c = simp c.in-7.is refl

pub returns-in-8 : goal.returns-in-8
unfolding phase_from
returns-in-8 c = simp c.in-8.is refl

pub returns-in-9 : goal.returns-in-9
unfolding phase_from
returns-in-9 c = simp c.in-9.is refl

pub returns-in-10 : goal.returns-in-10
unfolding phase_from
returns-in-10 c = simp c.in-10.is refl

pub returns-in-11 : goal.returns-in-11
unfolding phase_from
returns-in-11 c = simp c.in-11.is refl

pub returns-in-12 : goal.returns-in-12
unfolding phase_from
returns-in-12 c = simp c.in-12.is refl

pub returns-in-13 : goal.returns-in-13
unfolding phase_from
returns-in-13 c = simp c.in-13.is refl

pub returns-in-14 : goal.returns-in-14
unfolding phase_from
returns-in-14 c = simp c.in-14.is refl

pub returns-in-15 : goal.returns-in-15
unfolding phase_from
returns-in-15 c = simp c.in-15.is refl

pub returns-in-16 : goal.returns-in-16
unfolding phase_from
returns-in-16 c = simp c.in-16.is refl

pub returns-in-17 : goal.returns-in-17
unfolding phase_from
returns-in-17 c = simp c.in-17.is refl

pub returns-in-18 : goal.returns-in-18
unfolding phase_from
returns-in-18 c = simp c.in-18.is refl

pub returns-in-19 : goal.returns-in-19
unfolding phase_from
returns-in-19 c = simp c.in-19.is refl

pub returns-in-20 : goal.returns-in-20
unfolding phase_from
returns-in-20 c = simp c.in-20.is refl

pub returns-in-21 : goal.returns-in-21
unfolding phase_from
returns-in-21 c = simp c.in-21.is refl

pub returns-in-22 : goal.returns-in-22
unfolding phase_from
returns-in-22 c = simp c.in-22.is refl

pub returns-in-23 : goal.returns-in-23
unfolding phase_from
returns-in-23 c = simp c.in-23.is refl

pub returns-in_default : goal.returns-in_default
unfolding phase_from
returns-in_default c =
    simp (
      ne_eqb _ _ c.in_default.in_default-own.rest.1,
      ne_eqb _ _ c.in_default.in_default-own.rest.0.1,
      ne_eqb _ _ c.in_default.in_default-own.rest.0.0.1,
      ne_eqb _ _ c.in_default.in_default-own.rest.0.0.0.1,
      ne_eqb _ _ c.in_default.in_default-own.rest.0.0.0.0.1,
      ne_eqb _ _ c.in_default.in_default-own.rest.0.0.0.0.0.1,
      ne_eqb _ _ c.in_default.in_default-own.rest.0.0.0.0.0.0.1,
      ne_eqb _ _ c.in_default.in_default-own.rest.0.0.0.0.0.0.0.1,
      ne_eqb _ _ c.in_default.in_default-own.rest.0.0.0.0.0.0.0.0.1,
      ne_eqb _ _ c.in_default.in_default-own.rest.0.0.0.0.0.0.0.0.0.1,
      ne_eqb _ _ c.in_default.in_default-own.rest.0.0.0.0.0.0.0.0.0.0.1,
      ne_eqb _ _ c.in_default.in_default-own.rest.0.0.0.0.0.0.0.0.0.0.0.1,
      ne_eqb _ _ c.in_default.in_default-own.rest.0.0.0.0.0.0.0.0.0.0.0.0.1,
      ne_eqb _ _ c.in_default.in_default-own.rest.0.0.0.0.0.0.0.0.0.0.0.0.0.1,
      ne_eqb _ _ c.in_default.in_default-own.rest.0.0.0.0.0.0.0.0.0.0.0.0.0.0.1,
      ne_eqb _ _ c.in_default.in_default-own.rest.0.0.0.0.0.0.0.0.0.0.0.0.0.0.0.1,
      ne_eqb _ _ c.in_default.in_default-own.rest.0.0.0.0.0.0.0.0.0.0.0.0.0.0.0.0.1,
      ne_eqb _ _ c.in_default.in_default-own.rest.0.0.0.0.0.0.0.0.0.0.0.0.0.0.0.0.0.1,
      ne_eqb _ _ c.in_default.in_default-own.rest.0.0.0.0.0.0.0.0.0.0.0.0.0.0.0.0.0.0.1,
      ne_eqb _ _ c.in_default.in_default-own.rest.0.0.0.0.0.0.0.0.0.0.0.0.0.0.0.0.0.0.0.1,
      ne_eqb _ _ c.in_default.in_default-own.rest.0.0.0.0.0.0.0.0.0.0.0.0.0.0.0.0.0.0.0.0.1,
      ne_eqb _ _ c.in_default.in_default-own.rest.0.0.0.0.0.0.0.0.0.0.0.0.0.0.0.0.0.0.0.0.0.1,
      ne_eqb _ _ c.in_default.in_default-own.rest.0.0.0.0.0.0.0.0.0.0.0.0.0.0.0.0.0.0.0.0.0.0.1,
      ne_eqb _ _ c.in_default.in_default-own.rest.0.0.0.0.0.0.0.0.0.0.0.0.0.0.0.0.0.0.0.0.0.0.0.1,
    )
