-- `shown::found::put_table` meets its contract.
use mathlib.Core.Path.{refl, ap, sym, ◌∙◌}
use mathlib.Core.List.{List}
use Prim.Native.Nat.{ℕ, ◌*◌}
use native.Mathlib.Omega.{arith}
use lib.ListN.{take}
use lib.Seq.{take_all}
use Rattle.lent.specs.Lent.{cell_bytes, over_bytes, record_put, records}
use Rattle.lent.proofs.LentLaws.{cells_fit, cells_left, records_none, length-records, put_nth}
use Rattle.board.specs.Board.{board_in}
use Rattle.shown.specs.Looks.{row_cells}
use Rattle.shown.proofs.found.put_table.Goals as goal

pub returns-then-out-n : goal.returns-then-out-n
returns-then-out-n c =
    let B = board_in c.args.board.now in
    let out = c.args.out.now in
    let xs = B.table.order in
    record { value = c.order_count-n.ensures; out_after = sym (cells_left out (records (row_cells B) xs) (omega (arith, length-records (row_cells B) 2 (λ k. refl) xs, c.order_count-n.ensures))) }

pub loop-i-init : goal.loop-i-init
loop-i-init c =
    let B = board_in c.args.board.now in
    let out = c.args.out.now in
    let xs = B.table.order in
    (refl, records_none (row_cells B) out xs)

pub loop-i-preserved : goal.loop-i-preserved
loop-i-preserved c =
    let B = board_in c.args.board.now in
    let out = c.args.out.now in
    let xs = B.table.order in
    let l = c.loop-i in
    let put = c.put_row in
    let k = c.order_at in
    let n = c.order_count-n in
    let i = l.i in (
      put.auto.out ∙ l.invariant.0,
      put.ensures
          ∙ ap (λ (o : List ℕ). record_put o (2 * i) (row_cells B k.result)) l.invariant.1
          ∙ ap (λ (k : ℕ). record_put (over_bytes out (cell_bytes (records (row_cells B) (take i xs)))) (2 * i) (row_cells B k)) k.ensures
          ∙ put_nth (row_cells B) 2 (λ k. refl) out xs i 0 (omega (arith, n.ensures)) (omega (arith, n.ensures)),
    )

pub shape_of-out : goal.shape_of-out
shape_of-out c = c.loop-i.invariant.0

pub returns : goal.returns
returns c =
    let B = board_in c.args.board.now in
    let out = c.args.out.now in
    let xs = B.table.order in
    let l = c.loop-i in
    let n = c.order_count-n in record {
      value = n.ensures;
      out_after = l.invariant.1
          ∙ ap (λ (ks : List ℕ). over_bytes out (cell_bytes (records (row_cells B) ks))) (take_all l.i xs (omega (arith, n.ensures)))
          ∙ sym (cells_fit out (records (row_cells B) xs) (omega (arith, length-records (row_cells B) 2 (λ k. refl) xs, n.ensures)));
    }
