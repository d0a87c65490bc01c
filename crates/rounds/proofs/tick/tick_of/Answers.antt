-- `rounds::tick::tick_of` meets its contract.
use mathlib.Core.Path.{ap, sym, ◌∙◌}
use mathlib.Core.Bool.{true, false}
use Prim.Native.Nat.{ℕ, ◌+◌}
use native.Mathlib.Omega.{arith}
use borrow.Author.Tests.{eq-eqb, ne_eqb}
use lib.Dec.{eqb}
use lib.Ieee.{Float}
use lib.ListN.{drop}
use Rattle.ieee.specs.Times.{least}
use Rattle.tags.specs.Lists.{list_in}
use Rattle.table.specs.Table.{table_in}
use Rattle.table.specs.declared.tag.Settings.{Settings}
use Rattle.rounds.specs.Tick.{rate_of, least_rate}
use Rattle.rounds.proofs.TickLaws.{rate_more, rate_end}
use Rattle.rounds.proofs.tick.tick_of.Goals as goal
use Rattle.rounds.proofs.tick.tick_of.Goals.{else-tier_of-eq1, then-tier_of-eq1}

pub returns : goal.returns
returns c =
    let a = c.args in
    let l = c.loop-i in
    sym (l.invariant ∙ rate_end (table_in a.t.now) a.cycle l.tick (list_in a.order.now) l.i (omega arith))

pub loop-i-preserved : goal.loop-i-preserved
loop-i-preserved c =
    let a = c.args in
    let l = c.loop-i in
    let tags = table_in a.t.now in
    let order = list_in a.order.now in
    let tier = c.tier_of in
    let k = c.at-k in elim c.if-tier_of-eq1.branch [
      | then-tier_of-eq1 w ↦
          l.invariant
          ∙ rate_more tags a.cycle l.tick order l.i k.result true (omega arith) k.ensures (ap (λ (n : ℕ). eqb n 1) (sym tier.ensures) ∙ eq-eqb _ _ w.if-tier_of-eq1.true)
          ∙ ap (λ (x : Float). least_rate tags a.cycle x (drop (l.i + 1) order))
          (sym (w.tick-is ∙ w.lesser-tick.ensures ∙ ap (least l.tick) (w.rate_of.ensures ∙ ap (λ (s : Settings). rate_of s a.cycle) w.settings_of.ensures)))
      | else-tier_of-eq1 w ↦
          l.invariant
          ∙ rate_more tags a.cycle l.tick order l.i k.result false (omega arith) k.ensures (ap (λ (n : ℕ). eqb n 1) (sym tier.ensures) ∙ ne_eqb _ _ w.if-tier_of-eq1.false)
          ∙ ap (λ (x : Float). least_rate tags a.cycle x (drop (l.i + 1) order)) (sym w.tick-is)
    ]
