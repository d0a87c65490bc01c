-- `statistics::counts::count_where` meets its contract.
use mathlib.Core.Path.{refl, sym, ◌∙◌}
use native.Mathlib.Omega.{arith}
use Rattle.lists.specs.Keep.{keep}
use Rattle.tags.specs.Lists.{list_in}
use Rattle.statistics.proofs.CountLaws.{count_yes, count_no, count-all}
use Rattle.statistics.proofs.counts.count_where.Goals as goal
use Rattle.statistics.proofs.counts.count_where.Goals.{else-test, then-test}

pub loop-i-init : goal.loop-i-init
unfolding keep
loop-i-init g c = (omega arith, λ passes works. refl)

pub returns : goal.returns
returns g c =
    let l = c.loop-i in
    λ passes works. count-all passes (list_in c.args.list.now) l.i l.n (l.invariant.1 passes works) (omega arith)

pub loop-i-preserved : goal.loop-i-preserved
loop-i-preserved g c =
    let l = c.loop-i in
    let k = c.at in
    let t = c.test in
    let xs = list_in c.args.list.now in
    elim c.if-test.branch [
      | then-test w ↦ (
        omega (arith, w.n-is),
        λ passes works. w.n-is ∙ count_yes passes xs l.i l.n (l.invariant.1 passes works) k.result (omega arith) k.ensures (sym (works k.result t.result k.type_inv t.ensures) ∙ w.if-test.true),
      )
      | else-test w ↦ (
        omega (arith, w.n-is),
        λ passes works. w.n-is ∙ count_no passes xs l.i l.n (l.invariant.1 passes works) k.result (omega arith) k.ensures (sym (works k.result t.result k.type_inv t.ensures) ∙ w.if-test.false),
      )
    ]
