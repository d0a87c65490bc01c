-- `statistics::numbers::group_count` meets its contract.
use mathlib.Core.Path.{ap, sym, ◌∙◌}
use mathlib.Core.List.{List}
use Prim.Native.Nat.{ℕ, ◌+◌}
use native.Mathlib.Omega.{arith}
use lib.ListN.{length}
use Rattle.tags.specs.Lists.{list_in}
use Rattle.settings.specs.Configured.{configured_in}
use Rattle.statistics.specs.Numbers.{named}
use Rattle.statistics.proofs.NumberLaws.{firsts_none, length_yes, firsts_no}
use Rattle.statistics.proofs.numbers.group_count.Goals as goal
use Rattle.statistics.proofs.numbers.group_count.Goals.{else-is_first, then-is_first}

abbrev all : List ℕ → List ℕ → List ℕ
all configured recorded = named (configured_in configured) (list_in recorded)

pub loop-i-init : goal.loop-i-init
loop-i-init c =
    let a = c.args in
    (omega arith, sym (ap length (firsts_none (all a.configured.now a.recorded.now))))

pub loop-i-preserved : goal.loop-i-preserved
loop-i-preserved c =
    let a = c.args in
    let l = c.loop-i in
    let xs = all a.configured.now a.recorded.now in
    let first = sym c.is_first.ensures in
    elim c.if-is_first.branch [
      | then-is_first w ↦ (
        omega (arith, w.n-is),
        w.n-is ∙ ap (λ (n : ℕ). n + 1) l.invariant.1 ∙ sym (length_yes xs l.i (omega arith) (first ∙ w.if-is_first.true)),
      )
      | else-is_first w ↦ (
        omega (arith, w.n-is),
        w.n-is ∙ l.invariant.1 ∙ sym (ap length (firsts_no xs l.i (omega arith) (first ∙ w.if-is_first.false))),
      )
    ]
