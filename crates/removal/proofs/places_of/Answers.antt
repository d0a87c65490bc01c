-- `removal::places_of` meets its contract.
use Rattle.std.proofs.Common.{◌<◌, eqb, length, ◌∙◌, arith}
use borrow.Author.Tests.{eq-eqb, ne_eqb}
use Rattle.tags.specs.Lists.{list_in}
use Rattle.tags.proofs.ListLaws.{list_half, list_at, list_short}
use Rattle.removal.proofs.RemoveLaws.{one_hit, placing_yes, placing_no}
use Rattle.removal.proofs.places_of.Goals as goal
use Rattle.removal.proofs.places_of.Goals.{else-same, then-same}

pub half-requires : goal.half-requires
half-requires c = list_half c.args.s.now c.loop-i.i (omega arith)

pub overflow_add-hits : goal.overflow_add-hits
overflow_add-hits c =
    let a = c.args in
    omega (arith, one_hit (eqb c.half.result a.k), list_short a.s.now)

pub overflow_cast-here : goal.overflow_cast-here
overflow_cast-here c = omega (arith, list_short c.args.s.now)

pub loop-i-preserved : goal.loop-i-preserved
loop-i-preserved c =
    let a = c.args in
    let l = c.loop-i in
    let xs = list_in a.s.now in
    let x = c.half in
    let h : l.i < length xs = omega arith in
    let small : l.i < 65536 = omega (arith, list_short a.s.now) in
    let read = x.ensures ∙ list_at a.s.now l.i h in
    elim c.if-same.branch [ then-same w ↦ rw (w.here-is) (placing_yes a.k xs l.i l.hits l.sum l.invariant h small x.result read (eq-eqb _ _ w.if-same.true)) | else-same w ↦ rw (w.here-is) (placing_no a.k xs l.i l.hits l.sum l.invariant h small x.result read (ne_eqb _ _ w.if-same.false)) ]
