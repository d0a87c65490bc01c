-- `apply::reading::publish` meets its contract.
use borrow.Author.Rules.{rules}
use lib.Seq.{set-get_or}
use Rattle.apply.specs.Steps.{published_over}
use Rattle.apply.proofs.reading.publish.Goals as goal

pub returns-then-is_withheld : goal.returns-then-is_withheld
unfolding published_over
returns-then-is_withheld c = search (rules, set-get_or)

pub returns : goal.returns
unfolding published_over
returns c = search rules
