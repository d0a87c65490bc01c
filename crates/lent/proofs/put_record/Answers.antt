-- `lent::put_record` meets its contract.
use mathlib.Core.Path.{◌≡◌, refl, ap, sym, ◌∙◌}
use mathlib.Core.List.{List}
use Prim.Native.Nat.{ℕ, ◌+◌}
use native.Mathlib.Numerals.{add-one}
use native.Mathlib.Omega.{arith}
use lib.ListN.{length, get_or, take}
use lib.Seq.{take-suc, length-take-le}
use Rattle.lent.specs.Lent.{cell_put, record_put}
use Rattle.lent.proofs.LentLaws.{record_kept, record_none, cell_more}
use Rattle.lent.proofs.put_record.Goals as goal

pub returns-then-size-i : goal.returns-then-size-i
returns-then-size-i c =
    let a = c.args in
    record_kept a.out.now a.i a.cells.now (omega arith)

pub loop-j-init : goal.loop-j-init
loop-j-init c =
    let a = c.args in
    (refl, record_none a.out.now a.i (omega arith))

pub loop-j-preserved : goal.loop-j-preserved
loop-j-preserved c =
    let a = c.args in
    let l = c.loop-j in
    let put = c.put_cell in
    let cells = a.cells.now in
    let out = a.out.now in
    let j = l.j in
    let done = take j cells in
    let v = get_or cells j 0 in
    let long : length done ≡ j = length-take-le j cells (omega arith) in (
      put.auto.out ∙ l.invariant.0,
      put.ensures
          ∙ ap (λ (o : List ℕ). cell_put o (a.i + j) v) l.invariant.1
          ∙ ap (λ (n : ℕ). cell_put (record_put out a.i done) (a.i + n) v) (sym long)
          ∙ cell_more out a.i done v (omega arith)
          ∙ ap (record_put out a.i) (sym (ap (λ (n : ℕ). take n cells) (add-one j) ∙ take-suc cells j 0 (omega arith))),
    )
