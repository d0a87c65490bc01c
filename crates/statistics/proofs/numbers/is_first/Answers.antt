-- `statistics::numbers::is_first` meets its contract.
use mathlib.Core.Path.{◌≡◌, ap, sym, ◌∙◌}
use mathlib.Core.Bool.{not}
use mathlib.Core.List.{List}
use Prim.Native.Nat.{ℕ}
use native.Mathlib.Omega.{arith}
use lib.ListN.{get_or, take}
use lib.Seq.{get_or-take, length-take-le}
use Rattle.tags.specs.Lists.{list_in, member}
use Rattle.tags.proofs.ListLaws.{member_yes, member_no}
use Rattle.settings.specs.Configured.{configured_in}
use Rattle.statistics.specs.Numbers.{named}
use Rattle.statistics.proofs.NumberLaws.{first_is}
use Rattle.statistics.proofs.numbers.is_first.Goals as goal

abbrev all : List ℕ → List ℕ → List ℕ
all configured recorded = named (configured_in configured) (list_in recorded)

pub returns-then-number_at-group : goal.returns-then-number_at-group
returns-then-number_at-group c =
    let a = c.args in
    let l = c.loop-j in
    let xs = all a.configured.now a.recorded.now in
    let group = c.number_at-group in
    let here = c.number_at in
    let long = length-take-le a.i xs (omega arith) in
    let same : group.result ≡ get_or (take a.i xs) l.j 0 = sym c.if-number_at-group.true ∙ here.ensures ∙ sym (get_or-take a.i xs l.j 0 (omega arith)) in
    let met = l.invariant ∙ member_yes group.result (take a.i xs) l.j (omega arith) same in
    sym
    (first_is xs a.i (omega arith)
    ∙ ap (λ (k : ℕ). not (member k (take a.i xs))) (sym group.ensures)
    ∙ ap not met)

pub loop-j-preserved : goal.loop-j-preserved
loop-j-preserved c =
    let a = c.args in
    let l = c.loop-j in
    let xs = all a.configured.now a.recorded.now in
    let group = c.number_at-group in
    let here = c.number_at in
    let long = length-take-le a.i xs (omega arith) in
    let read = here.ensures ∙ sym (get_or-take a.i xs l.j 0 (omega arith)) in
    l.invariant ∙ member_no group.result (take a.i xs) l.j (omega arith) (λ e. c.if-number_at-group.false (read ∙ sym e))
