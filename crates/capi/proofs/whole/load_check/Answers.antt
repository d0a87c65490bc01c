-- `capi::whole::load_check` meets its contract.
use mathlib.Core.Path.{ap, ◌∙◌}
use mathlib.Core.List.{List}
use Prim.Native.Nat.{ℕ}
use Rattle.board.specs.Board.{board_in}
use Rattle.replies.specs.Worker.{worker}
use Rattle.checks.specs.Calls.{load_check}
use Rattle.capi.specs.Memory.{worker_in}
use Rattle.capi.proofs.whole.load_check.Goals as goal

pub load_check-requires : goal.load_check-requires
load_check-requires c = c.board_of.ensures.0

pub returns : goal.returns
unfolding worker_in
returns c =
    let a = c.args in
    c.load_check.ensures ∙ ap (λ (bs : List ℕ). load_check (worker a.e (board_in bs)) a.clock a.list.now) c.board_of.ensures.1
