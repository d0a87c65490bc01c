-- `settings::each::check_each` meets its contract.
use mathlib.Core.Path.{refl, sym, ◌∙◌}
use mathlib.Core.List.{[]}
use native.Mathlib.Omega.{arith}
use Rattle.settings.proofs.RecordLaws.{every_yes, every_no, every_end}
use Rattle.settings.proofs.each.check_each.Goals as goal

pub loop-i-init : goal.loop-i-init
loop-i-init g c = λ passes records e works. refl

pub returns-then-not-test : goal.returns-then-not-test
returns-then-not-test g c =
    let l = c.loop-i in
    λ passes records e works.
    sym (l.invariant passes records e works ∙ every_no passes records l.i [] (omega arith) (sym (works l.i c.test.result (omega arith) c.test.ensures) ∙ c.if-not-test.true))

pub loop-i-preserved : goal.loop-i-preserved
loop-i-preserved g c =
    let l = c.loop-i in
    λ passes records e works.
    l.invariant passes records e works ∙ every_yes passes records l.i [] (omega arith) (sym (works l.i c.test.result (omega arith) c.test.ensures) ∙ c.if-not-test.false)

pub returns : goal.returns
returns g c =
    let l = c.loop-i in
    λ passes records e works.
    sym (l.invariant passes records e works ∙ every_end passes records l.i (omega arith))
