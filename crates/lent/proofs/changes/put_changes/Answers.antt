-- `lent::changes::put_changes` meets its contract.
use mathlib.Core.Path.{refl, ap, sym, ◌∙◌}
use mathlib.Core.List.{List}
use Prim.Native.Nat.{ℕ, ◌*◌}
use native.Mathlib.Omega.{arith}
use lib.ListN.{take}
use lib.Seq.{take_all}
use Rattle.tags.specs.Lists.{list_in}
use Rattle.table.specs.Table.{table_in}
use Rattle.lent.specs.Lent.{cell_bytes, over_bytes, record_put, records}
use Rattle.lent.specs.Changes.{change_cells}
use Rattle.lent.proofs.LentLaws.{cells_fit, cells_left, records_none, length-records, put_nth}
use Rattle.lent.proofs.changes.put_changes.Goals as goal

pub returns-then-out-n : goal.returns-then-out-n
returns-then-out-n c =
    let a = c.args in
    let f = change_cells (table_in a.table.now) in
    let xs = list_in a.list.now in
    sym (cells_left a.out.now (records f xs) (omega (arith, length-records f 9 (λ k. refl) xs)))

pub loop-i-init : goal.loop-i-init
loop-i-init c =
    let a = c.args in
    (refl, records_none (change_cells (table_in a.table.now)) a.out.now (list_in a.list.now))

pub loop-i-preserved : goal.loop-i-preserved
loop-i-preserved c =
    let a = c.args in
    let l = c.loop-i in
    let put = c.put_change in
    let k = c.at in
    let f = change_cells (table_in a.table.now) in
    let xs = list_in a.list.now in
    let out = a.out.now in
    let i = l.i in (
      put.auto.out ∙ l.invariant.0,
      put.ensures
          ∙ ap (λ (o : List ℕ). record_put o (9 * i) (f k.result)) l.invariant.1
          ∙ ap (λ (k : ℕ). record_put (over_bytes out (cell_bytes (records f (take i xs)))) (9 * i) (f k)) k.ensures
          ∙ put_nth f 9 (λ k. refl) out xs i 0 (omega arith) (omega arith),
    )

pub returns : goal.returns
returns c =
    let a = c.args in
    let l = c.loop-i in
    let f = change_cells (table_in a.table.now) in
    let xs = list_in a.list.now in
    l.invariant.1
    ∙ ap (λ (ks : List ℕ). over_bytes a.out.now (cell_bytes (records f ks))) (take_all l.i xs (omega arith))
    ∙ sym (cells_fit a.out.now (records f xs) (omega (arith, length-records f 9 (λ k. refl) xs)))
