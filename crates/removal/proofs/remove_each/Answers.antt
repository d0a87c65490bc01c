-- `removal::remove_each` meets its contract.
use Rattle.std.proofs.Common.{◌≡◌, ◌+◌, ◌%◌, length, set, sym, refl, ap, ◌∙◌, mod-eq_of_lt, arith}
use Rattle.memory.specs.Halves.{halves_in}
use Rattle.memory.proofs.HalfLaws.{half_small, halves_same}
use Rattle.tags.proofs.ListLaws.{list_half, list_place}
use Rattle.removal.proofs.EachLaws.{removing_none, removing_read, removing_yes, removing_no, removing_all}
use Rattle.removal.proofs.remove_each.Goals as goal
use Rattle.removal.proofs.remove_each.Goals.{else-x-k, then-x-k}

pub loop-i-init : goal.loop-i-init
loop-i-init c =
    let a = c.args in
    (omega arith, (refl, removing_none a.k (halves_in a.s.now)))

pub half-x-requires : goal.half-x-requires
half-x-requires c =
    let l = c.loop-i in
    let there = list_half c.args.s.now l.i (omega arith) in
    omega arith

pub put_half-requires : goal.put_half-requires
put_half-requires c =
    let l = c.loop-i in
    let there = list_half c.args.s.now l.i (omega arith) in
    omega arith

pub returns : goal.returns
returns c =
    let a = c.args in
    let l = c.loop-i in
    let put = c.put_half-2 in
    removing_all a.k l.i l.j a.s.now l.s put.new.s l.invariant.1.1 (omega arith) l.invariant.0 put.ensures

pub loop-i-preserved : goal.loop-i-preserved
loop-i-preserved c =
    let a = c.args in
    let l = c.loop-i in
    let x = c.half-x in
    let old = halves_in a.s.now in
    let new = halves_in l.s in
    let r = l.invariant.1.1 in
    let h = list_place a.s.now l.i (omega arith) in
    let read = x.ensures ∙ removing_read a.k l.i l.j old new r h in
    let small : x.result % 65536 ≡ x.result = mod-eq_of_lt (rw x.ensures (half_small l.s (l.i + 1))) in
    elim c.if-x-k.branch [
      | then-x-k w ↦ (
        omega (arith, w.j-is),
        (
          ap length w.s-is ∙ w.put_half.auto.s ∙ l.invariant.1.0,
          rw (w.s-is, w.j-is)
              (removing_yes a.k l.i l.j old new r h (halves_in w.put_half.new.s) x.result read w.if-x-k.true
              l.invariant.0 (halves_same l.s a.s.now l.invariant.1.0) (w.put_half.ensures ∙ ap (set new (l.j + 1)) small)),
        ),
      )
      | else-x-k w ↦ (
        omega (arith, w.j-is),
        (
          ap length w.s-is ∙ l.invariant.1.0,
          rw (w.s-is, w.j-is) (removing_no a.k l.i l.j old new r h (sym w.if-x-k.false ∙ read)),
        ),
      )
    ]
