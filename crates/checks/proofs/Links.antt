-- For a link: the table of this crate's functions, what it asks of the crates below it, and that each function that another crate calls is found with its own code and all that it calls.
-- `possible` puts the tables together and runs the entry points.
use mathlib.Core.Bool.{true}
use prog.Linked.{Tree, World, Holds, in_world}
use prog.LinkedThreads.{HasT}
use prog.Wired.{Code}
use Rattle.checks.proofs.TheLink as link
use Rattle.checks.proofs.TheLinks.checks-calls-load_check
use Rattle.checks.proofs.TheLinks.checks-calls-tier_check
use Rattle.checks.proofs.TheLinks.checks-calls-write_check
use Rattle.checks.proofs.TheLinks.checks-creation-creation_check

abbrev pub table : Tree
table = link.table

abbrev pub Below : World → Type 0
Below W = link.Below W

abbrev pub Linked : Code → Type 0
Linked c = (W : World) → Holds W "checks" table → Below W → HasT (in_world W) true c

pub calls_load_check : Linked checks-calls-load_check.code
calls_load_check = link.linked-checks::calls::load_check

pub calls_tier_check : Linked checks-calls-tier_check.code
calls_tier_check = link.linked-checks::calls::tier_check

pub calls_write_check : Linked checks-calls-write_check.code
calls_write_check = link.linked-checks::calls::write_check

pub creation_creation_check : Linked checks-creation-creation_check.code
creation_creation_check = link.linked-checks::creation::creation_check
