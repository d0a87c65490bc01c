-- `groups::put_group` meets its contract.
use mathlib.Core.Path.{ap, ◌∙◌}
use mathlib.Core.List.{List}
use Prim.Native.Nat.{ℕ, ◌+◌, ◌*◌, ◌<◌}
use native.Mathlib.Nat.{mod-eq_of_lt}
use native.Mathlib.Omega.{arith}
use lib.ListN.{set}
use Rattle.groups.specs.Groups.{groups_in}
use Rattle.groups.proofs.Laws.{group_put, group_kept, group_coded}
use borrow.Author.Rules.{rules}
use Rattle.groups.proofs.put_group.Goals as goal

pub returns-then-s-g : goal.returns-then-s-g
returns-then-s-g c =
    let a = c.args in
    group_kept a.s.now a.g a.x (omega arith)

pub returns : goal.returns
returns c =
    let p5 = c.put_cell-5 in
    let p4 = c.put_cell-4 in
    let p3 = c.put_cell-3 in
    let p2 = c.put_cell-2 in
    let p1 = c.put_cell in
    let last = c.from-last in
    let before = c.from-before in
    let a = c.args in
    let s = a.s.now in
    let g = a.g in
    let x = a.x in
    let small : x.rate < 0x1_0000_0000 = search rules in
    group_put s p5.new.s g last.result.known before.result.known x.rate last.result.word before.result.word
    (p5.auto.s ∙ p4.auto.s ∙ p3.auto.s ∙ p2.auto.s ∙ p1.auto.s) (omega (arith, c.if-s-g.false))
    (p5.ensures ∙ ap (λ (cs : List ℕ). set cs (8 * g + 4) before.result.word)
    (p4.ensures ∙ ap (λ (cs : List ℕ). set cs (8 * g + 3) last.result.word)
    (p3.ensures ∙ ap (λ (cs : List ℕ). set cs (8 * g + 2) x.rate)
    (p2.ensures ∙ ap (λ (cs : List ℕ). set cs (8 * g + 1) before.result.known) p1.ensures))))
    ∙ ap (set (groups_in s) g) (group_coded x _ _ _ _ _ (mod-eq_of_lt small) last.ensures before.ensures)
