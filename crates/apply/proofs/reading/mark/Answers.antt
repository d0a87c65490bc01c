-- `apply::reading::mark` meets its contract.
use borrow.Author.Rules.{rules}
use Rattle.apply.specs.Apply.{timing_read}
use Rattle.apply.proofs.reading.mark.Goals as goal

pub returns : goal.returns
unfolding timing_read
returns c = search rules
