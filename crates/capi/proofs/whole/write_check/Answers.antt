-- `capi::whole::write_check` meets its contract.
use mathlib.Core.Path.{ap, ◌∙◌}
use mathlib.Core.List.{List}
use Prim.Native.Nat.{ℕ}
use Rattle.board.specs.Board.{board_in}
use Rattle.engine.specs.declared.Engine.{Engine}
use Rattle.replies.specs.Worker.{worker}
use Rattle.checks.specs.Calls.{write_check}
use Rattle.capi.specs.Memory.{worker_in}
use Rattle.capi.proofs.whole.write_check.Goals as goal

pub write_check-requires : goal.write_check-requires
write_check-requires c = c.board_of.ensures.0

pub returns : goal.returns
unfolding worker_in
returns c =
    let a = c.args in
    let head = c.head_of-e in
    c.write_check.ensures
    ∙ ap (λ (bs : List ℕ). write_check (worker head.result (board_in bs)) a.tag a.value) c.board_of.ensures.1
    ∙ ap (λ (e : Engine). write_check (worker e (worker_in a.mem.now).board) a.tag a.value) head.ensures
