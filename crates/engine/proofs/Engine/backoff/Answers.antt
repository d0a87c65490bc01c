-- `engine::Engine::backoff` meets its contract.
use lib.Ieee.{of_bits, of_int}
use Rattle.engine.proofs.Laws.{backoff_early, backoff_late}
use Rattle.engine.proofs.Engine.backoff.Goals as goal

pub returns-then-attempt-lt3 : goal.returns-then-attempt-lt3
unfolding of_bits of_int
returns-then-attempt-lt3 c = backoff_early _ c.args.attempt c.if-attempt-lt3.true

pub returns-else-attempt-lt3 : goal.returns-else-attempt-lt3
unfolding of_bits of_int
returns-else-attempt-lt3 c = backoff_late c.args.attempt c.if-attempt-lt3.false
