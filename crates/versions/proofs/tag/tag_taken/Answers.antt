-- `versions::tag::tag_taken` meets its contract.
use borrow.Author.Rules.{rules}
use Rattle.versions.specs.Versions.{tag_taken}
use Rattle.versions.proofs.tag.tag_taken.Goals as goal

pub returns : goal.returns
unfolding tag_taken
returns c = search rules
