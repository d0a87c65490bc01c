-- `descriptions::learn` meets its contract.
use mathlib.Core.Path.{◌≡◌, ap, sym, ◌∙◌}
use mathlib.Core.List.{List}
use Prim.Native.Nat.{ℕ, ◌<◌, ◌+◌}
use native.Mathlib.Omega.{arith}
use lib.ListN.{length, get_or, take, drop, length-take}
use lib.Seq.{get_or-take}
use Rattle.table.specs.declared.tag.Tag.{Tag}
use Rattle.board.specs.Board.{Board, board_in, with_records}
use Rattle.descriptions.specs.Descriptions.{found_count, found_in, known_from}
use Rattle.descriptions.proofs.Laws.{known_more, known_end}
use Rattle.descriptions.proofs.learn.Goals as goal

-- the tags that an answer covers
abbrev covered : List ℕ → List ℕ → List ℕ
covered b found = take (found_count found) (board_in b).asked

pub loop-i-preserved : goal.loop-i-preserved
loop-i-preserved c =
    let a = c.args in
    let l = c.loop-i in
    let i = l.i in
    let found = a.found.now in
    let asked = (board_in a.b.now).asked in
    let xs = covered a.b.now found in
    let k = c.asked_at in
    let d = c.found_at in
    let put = c.put_description in
    let B = board_in l.b in
    let same = l.invariant.1.1.1 in
    let h : i < length xs = omega arith in
    let here : k.result ≡ get_or xs i 0 =
    k.ensures ∙ ap (λ (X : Board). get_or X.asked i 0) same ∙ sym (get_or-take (found_count found) asked i 0 (omega (arith, length-take (found_count found) asked))) in (
      l.invariant.0,
      (
        put.auto.b ∙ l.invariant.1.0,
        (
          put.ensures.still,
          ap (λ (X : Board). with_records X (known_from (found_in found) (i + 1) (drop (i + 1) xs) X.table.tags)) put.ensures.board
              ∙ ap (λ (z : List Tag). with_records B z) (sym (known_more (found_in found) xs i B.table.tags k.result d.result h here d.ensures))
              ∙ same,
        ),
      ),
    )

pub returns : goal.returns
returns c =
    let a = c.args in
    let l = c.loop-i in
    let found = a.found.now in
    let B = board_in l.b in
    record {
      still = l.invariant.1.1.0;
      board =
          ap (λ (z : List Tag). with_records B z) (sym (known_end (found_in found) (covered a.b.now found) l.i B.table.tags (omega arith)))
          ∙ l.invariant.1.1.1;
    }
