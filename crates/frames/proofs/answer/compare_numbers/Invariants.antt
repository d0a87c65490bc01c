-- The numbers before the one at the index are as recorded.
use Rattle.std.proofs.Common.{◌≡◌, drop}
use Rattle.frames.specs.Answer.{cells_from}
use Rattle.frames.proofs.answer.compare_numbers.Given as goal

abbrev pub invariant-loop-index : goal.invariant-loop-index
invariant-loop-index l = cells_from 0 l.numbers l.recorded ≡ cells_from l.index (drop l.index l.numbers) l.recorded
