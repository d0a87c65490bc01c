-- `tags::insert_at` meets its contract.
use mathlib.Core.Path.{◌≡◌, refl, ap, sym, ◌∙◌}
use Prim.Native.Nat.{ℕ, ◌≤◌, ◌+◌, ◌%◌}
use native.Mathlib.Nat.{mod-eq_of_lt}
use native.Mathlib.Omega.{arith}
use lib.ListN.{length, get_or}
use Rattle.memory.specs.Halves.{halves_in}
use Rattle.tags.specs.Lists.{list_in}
use Rattle.memory.proofs.HalfLaws.{half_small}
use Rattle.tags.proofs.ListLaws.{opened, opened_here, opening_none, opening_next, opening_put, opening_all}
use Rattle.tags.proofs.insert_at.Goals as goal

pub loop-i-init : goal.loop-i-init
loop-i-init c =
    let a = c.args in
    let s = a.s.now in
    let inside : a.p ≤ length (list_in s) = omega (arith, c.count-n.ensures) in
    (omega arith, (omega arith, (refl, (sym (opened_here (list_in s) a.p (a.k % 65536) inside), opening_none s a.p (a.k % 65536) inside))))

pub loop-i-preserved : goal.loop-i-preserved
loop-i-preserved c =
    let a = c.args in
    let n = c.count-n in
    let l = c.loop-i in
    let s = a.s.now in
    let v = a.k % 65536 in
    let next = c.half-next in
    let put = c.put_half in
    let small : next.result % 65536 ≡ next.result = mod-eq_of_lt (rw next.ensures (half_small l.s (l.i + 1))) in (
      omega arith,
      (
        omega arith,
        (
          put.auto.s ∙ l.invariant.1.1.0,
          (
            small ∙ next.ensures ∙ opening_next s (halves_in l.s) a.p v l.i l.invariant.1.1.1.1 l.invariant.0 (omega (arith, n.ensures)),
            opening_put s l.s a.p v n.result l.i (halves_in put.new.s) (l.x % 65536) n.ensures (omega arith) (omega arith) (omega arith)
                l.invariant.1.1.0 l.invariant.1.1.1.1 l.invariant.1.1.1.0 put.ensures,
          ),
        ),
      ),
    )

pub returns : goal.returns
returns c =
    let a = c.args in
    let n = c.count-n in
    let l = c.loop-i in
    let s = a.s.now in
    let v = a.k % 65536 in
    let whole = opened (list_in s) a.p v in
    let put = c.put_half-2 in
    let put2 = c.put_half-3 in
    let end : l.i ≡ n.result = omega arith in
    opening_all s put.new.s put2.new.s a.p v n.result n.ensures (omega arith) (omega arith)
    (opening_put s l.s a.p v n.result n.result (halves_in put.new.s) (l.x % 65536) n.ensures (omega arith) (omega arith) (omega arith)
    l.invariant.1.1.0 (rw end at l.invariant.1.1.1.1) (l.invariant.1.1.1.0 ∙ ap (λ (m : ℕ). get_or whole m 0) end) put.ensures)
    put2.ensures
