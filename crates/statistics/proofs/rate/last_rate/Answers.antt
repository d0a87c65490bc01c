-- `statistics::rate::last_rate` meets its contract.
use mathlib.Core.Path.{ap, sym, ◌∙◌}
use mathlib.Core.Bool.{true, false}
use Prim.Native.Nat.{ℕ, ◌+◌}
use native.Mathlib.Omega.{arith}
use borrow.Author.Tests.{eq-eqb, ne_eqb}
use lib.ListN.{drop}
use Rattle.settings.specs.Configured.{configured_in}
use Rattle.statistics.specs.Rate.{last_rate_from}
use Rattle.statistics.proofs.RateLaws.{rate_more, rate_end}
use Rattle.statistics.proofs.rate.last_rate.Goals as goal
use Rattle.statistics.proofs.rate.last_rate.Goals.{else-x-group, then-x-group}

pub returns : goal.returns
returns c =
    let a = c.args in
    let l = c.loop-i in
    sym (l.invariant ∙ rate_end l.rate (configured_in a.configured.now) a.group l.i (omega arith))

pub loop-i-preserved : goal.loop-i-preserved
loop-i-preserved c =
    let a = c.args in
    let l = c.loop-i in
    let xs = configured_in a.configured.now in
    let x = c.configured_at-x in
    elim c.if-x-group.branch [
      | then-x-group w ↦
          l.invariant
          ∙ rate_more l.rate xs a.group l.i x.result true (omega arith) x.ensures (eq-eqb _ _ w.if-x-group.true)
          ∙ ap (λ (r : ℕ). last_rate_from r (drop (l.i + 1) xs) a.group) (sym w.rate-is)
      | else-x-group w ↦
          l.invariant
          ∙ rate_more l.rate xs a.group l.i x.result false (omega arith) x.ensures (ne_eqb _ _ w.if-x-group.false)
          ∙ ap (λ (r : ℕ). last_rate_from r (drop (l.i + 1) xs) a.group) (sym w.rate-is)
    ]
