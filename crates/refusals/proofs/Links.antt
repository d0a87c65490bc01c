-- For a link: the table of this crate's functions, what it asks of the crates below it, and that each function that another crate calls is found with its own code and all that it calls.
-- `possible` puts the tables together and runs the entry points.
use mathlib.Core.Bool.{true}
use prog.Linked.{Tree, World, Holds, in_world}
use prog.LinkedThreads.{HasT}
use prog.Wired.{Code}
use Rattle.refusals.proofs.TheLink as link
use Rattle.refusals.proofs.TheLinks.refusals-Refusal-number

abbrev pub table : Tree
table = link.table

abbrev pub Below : World → Type 0
Below W = link.Below W

abbrev pub Linked : Code → Type 0
Linked c = (W : World) → Holds W "refusals" table → Below W → HasT (in_world W) true c

pub Refusal_number : Linked refusals-Refusal-number.code
Refusal_number = link.linked-refusals::Refusal::number
