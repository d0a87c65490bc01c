-- `capi::whole::size_check` meets its contract.
use mathlib.Core.Path.{refl, sym, ◌∙◌}
use native.Mathlib.Omega.{arith}
use borrow.Author.Tests.{le-leb, lt-leb}
use Rattle.capi.specs.Memory.{head_size, size_check}
use Rattle.capi.proofs.whole.size_check.Goals as goal

pub returns-then-n-lt-HEAD : goal.returns-then-n-lt-HEAD
unfolding size_check
returns-then-n-lt-HEAD c = rw (lt-leb head_size c.args.n (omega arith)) refl

pub returns-then-is_board_size : goal.returns-then-is_board_size
unfolding size_check
returns-then-is_board_size c =
    let n = c.args.n in
    rw (le-leb head_size n (omega (arith, c.if-n-lt-HEAD.false)), sym c.is_board_size.ensures ∙ c.if-is_board_size.true) refl

pub returns : goal.returns
unfolding size_check
returns c =
    let n = c.args.n in
    rw (le-leb head_size n (omega (arith, c.if-n-lt-HEAD.false)), sym c.is_board_size.ensures ∙ c.if-is_board_size.false) refl
