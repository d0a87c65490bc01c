-- `versions::check::check_version` meets its contract.
use borrow.Author.Rules.{rules}
use Rattle.versions.specs.Versions.{version_table}
use Rattle.versions.proofs.check.check_version.Goals as goal

pub returns-then-takes_settings : goal.returns-then-takes_settings
unfolding version_table
returns-then-takes_settings c = search rules

pub returns-else-takes_settings : goal.returns-else-takes_settings
unfolding version_table
returns-else-takes_settings c = search rules
