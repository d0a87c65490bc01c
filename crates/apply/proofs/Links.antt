-- For a link: the table of this crate's functions, what it asks of the crates below it, and that each function that another crate calls is found with its own code and all that it calls.
-- `possible` puts the tables together and runs the entry points.
use mathlib.Core.Bool.{true}
use prog.Linked.{Tree, World, Holds, in_world}
use prog.LinkedThreads.{HasT}
use prog.Wired.{Code}
use Rattle.apply.proofs.TheLink as link
use Rattle.apply.proofs.TheLinks.apply-reading-apply_result

abbrev pub table : Tree
table = link.table

abbrev pub Below : World → Type 0
Below W = link.Below W

abbrev pub Linked : Code → Type 0
Linked c = (W : World) → Holds W "apply" table → Below W → HasT (in_world W) true c

pub reading_apply_result : Linked apply-reading-apply_result.code
reading_apply_result = link.linked-apply::reading::apply_result
