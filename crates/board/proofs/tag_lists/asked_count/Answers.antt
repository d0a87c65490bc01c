-- `board::tag_lists::asked_count` meets its contract.
use mathlib.Core.Path.{ap, ◌∙◌}
use mathlib.Core.List.{List}
use Prim.Native.Nat.{ℕ}
use lib.ListN.{length}
use Rattle.board.proofs.BoardLaws.{asked-read}
use Rattle.board.proofs.tag_lists.asked_count.Goals as goal

pub returns : goal.returns
returns c =
    let a = c.args in
    let t = c.asked_of in
    c.count.ensures ∙ ap (λ (l : List ℕ). length l) (asked-read a.b.now t.result.now t.ensures)
