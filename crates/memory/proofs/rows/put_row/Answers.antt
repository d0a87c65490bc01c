-- `memory::rows::put_row` meets its contract.
use mathlib.Core.Path.{◌≡◌, ap, sym, ◌∙◌}
use mathlib.Core.List.{List}
use Prim.Native.Nat.{ℕ, ◌<◌, ◌+◌, ◌*◌}
use native.Mathlib.Omega.{arith}
use native.Mathlib.Numerals.{add-one}
use borrow.Author.Rules.{rules}
use lib.ListN.{length, get_or, set}
use lib.Seq.{paste, paste-suc}
use Rattle.memory.specs.Cells.{cells_in}
use Rattle.memory.proofs.CellLaws.{length_cells}
use Rattle.memory.proofs.RowLaws.{rows_kept, rows_put}
use Rattle.memory.proofs.rows.put_row.Goals as goal

pub returns-then-s-k : goal.returns-then-s-k
returns-then-s-k c =
    let a = c.args in
    rows_kept a.s.now a.w a.k c.if-s-k.true

pub loop-j-preserved : goal.loop-j-preserved
loop-j-preserved c =
    let put = c.put_word in
    let l = c.loop-j in
    let a = c.args in
    let d = cells_in a.s.now in
    let p = 32 * a.k in
    let long : length a.w ≡ 32 = search rules in
    let size : p + l.j < length d = rw (length_cells a.s.now) (omega arith) in (
      omega arith,
      (
        put.auto.s ∙ l.invariant.1.0,
        put.ensures
            ∙ ap (λ (z : List ℕ). set z (p + l.j) (get_or a.w l.j 0)) l.invariant.1.1
            ∙ paste-suc d p a.w l.j 0 size (omega arith)
            ∙ ap (λ (n : ℕ). paste d p a.w n) (sym (add-one l.j)),
      ),
    )

pub returns : goal.returns
returns c =
    let l = c.loop-j in
    let a = c.args in
    let all : l.j ≡ 32 = omega arith in
    let long : length a.w ≡ 32 = search rules in
    rows_put a.s.now l.s a.w a.k l.invariant.1.0 c.if-s-k.false long
    (l.invariant.1.1 ∙ ap (λ (n : ℕ). paste (cells_in a.s.now) (32 * a.k) a.w n) all)
