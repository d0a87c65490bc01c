-- `board::tag_lists::asked_at` meets its contract.
use mathlib.Core.Path.{ap, ◌∙◌}
use mathlib.Core.List.{List}
use Prim.Native.Nat.{ℕ}
use lib.ListN.{get_or}
use Rattle.board.proofs.BoardLaws.{asked-read}
use Rattle.board.proofs.tag_lists.asked_at.Goals as goal

pub returns : goal.returns
returns c =
    let a = c.args in
    let t = c.asked_of in
    c.at.ensures ∙ ap (λ (l : List ℕ). get_or l a.i 0) (asked-read a.b.now t.result.now t.ensures)
