-- `slices::slice::next_index` meets its contract.
use mathlib.Core.Path.{ap, sym, ◌∙◌}
use Prim.Native.Nat.{ℕ, ◌≤◌, ◌+◌, ◌%◌}
use native.Mathlib.Nat.{mod-lt}
use native.Mathlib.Omega.{arith}
use Rattle.ieee.proofs.Bound.{slices_pos}
use Rattle.ieee.specs.Round.{slices_of}
use Rattle.tags.specs.Lists.{list_in}
use Rattle.slices.proofs.SliceLaws.{next_none, next_some}
use Rattle.slices.proofs.slice.next_index.Goals as goal

pub returns-then-count-eq0 : goal.returns-then-count-eq0
returns-then-count-eq0 c =
    let a = c.args in
    next_none (slices_of a.period a.cycle) (list_in a.sorted.now) a.index (sym c.count.ensures ∙ c.if-count-eq0.true)

pub nonzero_rem-result : goal.nonzero_rem-result
nonzero_rem-result c =
    let a = c.args in
    omega (arith, c.slices-s.ensures, slices_pos a.period a.cycle)

pub overflow_add-result : goal.overflow_add-result
overflow_add-result c =
    let a = c.args in
    let s = c.slices-s in
    let pos : 1 ≤ s.result = omega (arith, s.ensures, slices_pos a.period a.cycle) in
    omega (arith, mod-lt a.index {m = s.result} pos)

pub nonzero_rem-result-2 : goal.nonzero_rem-result-2
nonzero_rem-result-2 c =
    let a = c.args in
    omega (arith, c.slices-s.ensures, slices_pos a.period a.cycle)

pub returns : goal.returns
returns c =
    let a = c.args in
    let S = slices_of a.period a.cycle in
    ap (λ (s : ℕ). (a.index % s + 1) % s) c.slices-s.ensures
    ∙ next_some S (list_in a.sorted.now) a.index (λ e. c.if-count-eq0.false (c.count.ensures ∙ e))
