-- `apply::reading::cache` meets its contract.
use borrow.Author.Rules.{rules}
use lib.Seq.{set-get_or}
use Rattle.apply.specs.Steps.{cached_over}
use Rattle.apply.proofs.reading.cache.Goals as goal

pub returns-then-is_same_as : goal.returns-then-is_same_as
unfolding cached_over
returns-then-is_same_as c = search (rules, set-get_or)

pub returns : goal.returns
unfolding cached_over
returns c = search rules
