-- `lent::put_bytes` meets its contract.
use mathlib.Core.Path.{refl, ap, sym, ◌∙◌}
use mathlib.Core.List.{List}
use Prim.Native.Nat.{ℕ}
use native.Mathlib.Numerals.{add-one}
use native.Mathlib.Omega.{arith}
use lib.ListN.{get_or, set, take, length-set}
use Rattle.lent.specs.Lent.{over_bytes}
use Rattle.lent.proofs.LentLaws.{over_start, over-next, over-cut}
use Rattle.lent.proofs.put_bytes.Goals as goal
use Rattle.lent.proofs.put_bytes.Goals.{else-bytes-out, then-bytes-out}

pub loop-j-preserved : goal.loop-j-preserved
loop-j-preserved c =
    let a = c.args in
    let l = c.loop-j in
    let out = a.out.now in
    let bytes = a.bytes.now in
    let j = l.j in (
      l.invariant.0,
      (
        length-set l.out j (get_or bytes j 0) ∙ l.invariant.1.0,
        ap (λ (o : List ℕ). set o j (get_or bytes j 0)) l.invariant.1.1
            ∙ over-next out bytes j (omega arith) (omega arith)
            ∙ ap (λ (m : ℕ). over_bytes out (take m bytes)) (sym (add-one j)),
      ),
    )

pub returns : goal.returns
returns c =
    let a = c.args in
    let l = c.loop-j in
    l.invariant.1.1 ∙ over-cut a.out.now a.bytes.now l.j (omega arith)

pub loop-j-init : goal.loop-j-init
loop-j-init c =
    let a = c.args in (
      elim c.if-bytes-out.branch [ then-bytes-out w ↦ omega (arith, w.n-is) | else-bytes-out w ↦ omega (arith, w.n-is) ],
      (refl, over_start a.out.now a.bytes.now),
    )
