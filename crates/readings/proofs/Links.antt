-- For a link: the table of this crate's functions, what it asks of the crates below it, and that each function that another crate calls is found with its own code and all that it calls.
-- `possible` puts the tables together and runs the entry points.
use mathlib.Core.Bool.{true}
use prog.Linked.{Tree, World, Holds, in_world}
use prog.LinkedThreads.{HasT}
use prog.Wired.{Code}
use Rattle.readings.proofs.TheLink as link
use Rattle.readings.proofs.TheLinks.readings-changes-tell_changes
use Rattle.readings.proofs.TheLinks.readings-kept-apply_back
use Rattle.readings.proofs.TheLinks.readings-listed-apply

abbrev pub table : Tree
table = link.table

abbrev pub Below : World → Type 0
Below W = link.Below W

abbrev pub Linked : Code → Type 0
Linked c = (W : World) → Holds W "readings" table → Below W → HasT (in_world W) true c

pub changes_tell_changes : Linked readings-changes-tell_changes.code
changes_tell_changes = link.linked-readings::changes::tell_changes

pub kept_apply_back : Linked readings-kept-apply_back.code
kept_apply_back = link.linked-readings::kept::apply_back

pub listed_apply : Linked readings-listed-apply.code
listed_apply = link.linked-readings::listed::apply
