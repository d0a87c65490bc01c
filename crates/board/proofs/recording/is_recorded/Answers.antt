-- `board::recording::is_recorded` meets its contract.
use mathlib.Core.Path.{ap, ◌∙◌}
use mathlib.Core.List.{List}
use Prim.Native.Nat.{ℕ}
use Rattle.tags.specs.Lists.{member}
use Rattle.board.proofs.BoardLaws.{recorded-read}
use Rattle.board.proofs.recording.is_recorded.Goals as goal

pub returns : goal.returns
returns c =
    let a = c.args in
    let t = c.recorded_of in
    c.contains.ensures ∙ ap (λ (l : List ℕ). member a.g l) (recorded-read a.b.now t.result.now t.ensures)
