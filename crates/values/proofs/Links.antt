-- For a link: the table of this crate's functions, what it asks of the crates below it, and that each function that another crate calls is found with its own code and all that it calls.
-- `possible` puts the tables together and runs the entry points.
use mathlib.Core.Bool.{true}
use prog.Linked.{Tree, World, Holds, in_world}
use prog.LinkedThreads.{HasT}
use prog.Wired.{Code}
use Rattle.values.proofs.TheLink as link
use Rattle.values.proofs.TheLinks.values-deadband-within_deadband
use Rattle.values.proofs.TheLinks.values-entry-merge
use Rattle.values.proofs.TheLinks.values-entry-same

abbrev pub table : Tree
table = link.table

abbrev pub Below : World → Type 0
Below W = link.Below W

abbrev pub Linked : Code → Type 0
Linked c = (W : World) → Holds W "values" table → Below W → HasT (in_world W) true c

pub deadband_within_deadband : Linked values-deadband-within_deadband.code
deadband_within_deadband = link.linked-values::deadband::within_deadband

pub entry_merge : Linked values-entry-merge.code
entry_merge = link.linked-values::entry::merge

pub entry_same : Linked values-entry-same.code
entry_same = link.linked-values::entry::same
