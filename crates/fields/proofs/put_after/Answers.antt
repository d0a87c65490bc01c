use mathlib.Core.Path.{ap, sym, ◌∙◌}
use lib.ListN.{get_or, set}
use mathlib.Core.List.{List}
use Prim.Native.Nat.{ℕ, ◌<◌}
use native.Mathlib.Nat.{mod-eq_of_lt}
use borrow.Author.Rules.{rules}
use Rattle.memory.specs.Cells.{rows_in, no_row}
use Rattle.memory.proofs.RowLaws.{row_long}
use Rattle.table.specs.Table.{table_in}
use Rattle.table.proofs.RowLaws.{table_at, table_put, rows_put_2, rows_put_more}
use Rattle.fields.proofs.FieldLaws.{after_put, after_begun}
use Rattle.fields.proofs.put_after.Goals as goal
use Rattle.fields.proofs.put_after.Goals.{then-row_cell-eq0, else-row_cell-eq0}

pub returns : goal.returns
returns c =
    let a = c.args in
    let t = a.t.now in
    let w = get_or (rows_in t) a.k no_row in
    let mid = c.if-row_cell-eq0 in
    let put = c.put_row_cell-2 in
    let small : a.after < 256 = search rules in
    elim mid.branch [
      | then-row_cell-eq0 b ↦
          let one = b.put_row_cell in
          let two = b.put_row_cell-then-row_cell-eq0 in
          let begun = ap rows_in b.t-is ∙ rows_put_2 t one.new.s two.new.s a.k 1 1 2 0 one.ensures two.ensures in
          table_put t put.new.s (set (set (set w 1 1) 2 0) 3 a.after) a.k (rows_put_more t mid.t put.new.s (set (set w 1 1) 2 0) a.k 3 a.after begun put.ensures)
          ∙ ap (set (table_in t) a.k) (after_begun w (row_long t a.k) a.after (sym c.row_cell.ensures ∙ b.if-row_cell-eq0.true) ∙ rw (mod-eq_of_lt small, ← (table_at t a.k)))
      | else-row_cell-eq0 b ↦
          table_put t put.new.s (set w 3 a.after) a.k (put.ensures ∙ ap (λ (s : List ℕ). set (rows_in s) a.k (set (get_or (rows_in s) a.k no_row) 3 a.after)) b.t-is)
          ∙ ap (set (table_in t) a.k) (after_put w (row_long t a.k) a.after (λ e. b.if-row_cell-eq0.false (c.row_cell.ensures ∙ e)) ∙ rw (mod-eq_of_lt small, ← (table_at t a.k)))
    ]
