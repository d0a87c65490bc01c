-- `slices::slice::list_slice` meets its contract.
use mathlib.Core.Path.{◌≡◌, refl, ap, sym, ◌∙◌}
use mathlib.Core.List.{List, ◌++◌}
use Prim.Native.Nat.{ℕ, ◌<◌, ◌+◌, ◌-◌, ◌*◌, ◌%◌, min}
use native.Mathlib.Omega.{arith}
use lib.ListN.{length, get_or, take, drop}
use Rattle.ieee.proofs.Bound.{slices_pos}
use Rattle.ieee.specs.Round.{slices_of}
use Rattle.lists.specs.Slices.{slice}
use Rattle.tags.specs.Lists.{list_in, room, pushed}
use Rattle.tags.proofs.ListLaws.{room_same, list_small}
use Rattle.slices.proofs.SliceLaws.{size_is, begins_past, begins_within, slice_none, slice_past, slice_cut, fitted_none, part_more}
use Rattle.slices.proofs.slice.list_slice.Goals as goal
use Rattle.slices.proofs.slice.list_slice.Goals.{else-n-start, then-n-start}

pub slice_size-size-requires : goal.slice_size-size-requires
slice_size-size-requires c =
    let a = c.args in
    omega (arith, c.slices.ensures, slices_pos a.period a.cycle)

pub returns-then-size-eq0 : goal.returns-then-size-eq0
returns-then-size-eq0 c =
    let a = c.args in
    let z = c.slice_size-size.result in
    let S = slices_of a.period a.cycle in
    let xs = list_in a.sorted.now in
    let sized = size_is xs S c.count-n.result c.slices.result z c.count-n.ensures c.slices.ensures c.slice_size-size.ensures in
    fitted_none a.list.now (slice S xs a.index) (slice_none S xs a.index z sized c.if-size-eq0.true)

pub returns-then-n-size : goal.returns-then-n-size
returns-then-n-size c =
    let a = c.args in
    let n = c.count-n in
    let z = c.slice_size-size.result in
    let S = slices_of a.period a.cycle in
    let xs = list_in a.sorted.now in
    let sized = size_is xs S n.result c.slices.result z n.ensures c.slices.ensures c.slice_size-size.ensures in
    let past = begins_past n.result z a.index (omega arith) c.if-n-size.true in
    fitted_none a.list.now (slice S xs a.index) (slice_past S xs a.index z sized (omega (arith, n.ensures)))

pub loop-i-init : goal.loop-i-init
loop-i-init c =
    let a = c.args in
    let z = c.slice_size-size.result in
    let inside = begins_within c.count-n.result z a.index (omega arith) (omega arith) in
    let at = a.index * z in
    let rest = drop at (list_in a.sorted.now) in
    let none : at - at ≡ 0 = omega arith in (
      elim c.if-n-start.branch [ then-n-start w ↦ omega arith | else-n-start w ↦ omega arith ],
      (refl, fitted_none a.list.now (take (at - at) rest) (ap (λ (j : ℕ). take j rest) none)),
    )

pub loop-i-preserved : goal.loop-i-preserved
loop-i-preserved c =
    let a = c.args in
    let z = c.slice_size-size in
    let n = c.count-n in
    let l = c.loop-i in
    let k = c.at in
    let put = c.push in
    let at = a.index * z.result in
    let xs = list_in a.sorted.now in
    let start = a.list.now in
    let same : room l.list ≡ room start = room_same l.list start l.invariant.1.0 in
    let small : k.result < 65536 = rw k.ensures (list_small a.sorted.now l.i) in
    let here : at + (l.i - at) ≡ l.i = omega arith in
    let one : (l.i - at) + 1 ≡ l.i + 1 - at = omega arith in (
      l.invariant.0,
      (
        put.auto.s ∙ l.invariant.1.0,
        put.ensures ∙ ap (λ (m : ℕ). pushed m (list_in l.list) (k.result % 65536)) same
            ∙ part_more (room start) at (l.i - at) (list_in start) xs (list_in l.list) k.result l.invariant.1.1 (omega (arith, n.ensures)) (k.ensures ∙ ap (λ (m : ℕ). get_or xs m 0) (sym here)) small
            ∙ ap (λ (j : ℕ). take (room start) (list_in start ++ take j (drop at xs))) one,
      ),
    )

pub returns : goal.returns
returns c =
    let a = c.args in
    let n = c.count-n in
    let z = c.slice_size-size.result in
    let S = slices_of a.period a.cycle in
    let xs = list_in a.sorted.now in
    let sized = size_is xs S n.result c.slices.result z n.ensures c.slices.ensures c.slice_size-size.ensures in
    let l = c.loop-i in
    let at = a.index * z in
    let inside = begins_within n.result z a.index (omega arith) (omega arith) in
    let clipped : l.i - at ≡ min z (length xs - at) =
    elim c.if-n-start.branch [ then-n-start w ↦ omega (arith, n.ensures) | else-n-start w ↦ omega (arith, n.ensures) ]
    in
    l.invariant.1.1
    ∙ ap (λ (r : List ℕ). take (room a.list.now) (list_in a.list.now ++ r)) (slice_cut S xs a.index z (l.i - at) sized clipped)
