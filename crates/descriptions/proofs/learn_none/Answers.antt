-- `descriptions::learn_none` meets its contract.
use mathlib.Core.Path.{◌≡◌, refl, ap, sym, ◌∙◌}
use mathlib.Core.List.{List}
use Prim.Native.Nat.{ℕ, ◌+◌}
use native.Mathlib.Omega.{arith}
use lib.ListN.{get_or, drop}
use Rattle.table.specs.declared.tag.Description.{Description}
use Rattle.table.specs.declared.tag.Description.TheVariants.{Nothing}
use Rattle.table.specs.declared.tag.Tag.{Tag}
use Rattle.board.specs.Board.{Board, board_in, with_records}
use Rattle.descriptions.specs.Descriptions.{known_from}
use Rattle.descriptions.proofs.Laws.{known_more, known_end}
use Rattle.descriptions.proofs.learn_none.Goals as goal

abbrev none : ℕ → Description
none i = Nothing

pub loop-i-preserved : goal.loop-i-preserved
loop-i-preserved c =
    let a = c.args in
    let l = c.loop-i in
    let xs = (board_in a.b.now).asked in
    let k = c.asked_at in
    let put = c.put_description in
    let B = board_in l.b in
    let same = l.invariant.1.1 in
    let here : k.result ≡ get_or xs l.i 0 = k.ensures ∙ ap (λ (X : Board). get_or X.asked l.i 0) same in (
      put.auto.b ∙ l.invariant.0,
      (
        put.ensures.still,
        ap (λ (X : Board). with_records X (known_from none (l.i + 1) (drop (l.i + 1) xs) X.table.tags)) put.ensures.board
            ∙ ap (λ (z : List Tag). with_records B z) (sym (known_more none xs l.i B.table.tags k.result Nothing (omega arith) here refl))
            ∙ same,
      ),
    )

pub returns : goal.returns
returns c =
    let a = c.args in
    let l = c.loop-i in
    let B = board_in l.b in
    record {
      still = l.invariant.1.0;
      board =
          ap (λ (z : List Tag). with_records B z) (sym (known_end none (board_in a.b.now).asked l.i B.table.tags (omega arith)))
          ∙ l.invariant.1.1;
    }
