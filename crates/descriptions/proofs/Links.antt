-- For a link: the table of this crate's functions, what it asks of the crates below it, and that each function that another crate calls is found with its own code and all that it calls.
-- `possible` puts the tables together and runs the entry points.
use mathlib.Core.Bool.{true}
use prog.Linked.{Tree, World, Holds, in_world}
use prog.LinkedThreads.{HasT}
use prog.Wired.{Code}
use Rattle.descriptions.proofs.TheLink as link
use Rattle.descriptions.proofs.TheLinks.descriptions-ask_descriptions
use Rattle.descriptions.proofs.TheLinks.descriptions-learn
use Rattle.descriptions.proofs.TheLinks.descriptions-learn_none

abbrev pub table : Tree
table = link.table

abbrev pub Below : World → Type 0
Below W = link.Below W

abbrev pub Linked : Code → Type 0
Linked c = (W : World) → Holds W "descriptions" table → Below W → HasT (in_world W) true c

pub ask_descriptions : Linked descriptions-ask_descriptions.code
ask_descriptions = link.linked-descriptions::ask_descriptions

pub learn : Linked descriptions-learn.code
learn = link.linked-descriptions::learn

pub learn_none : Linked descriptions-learn_none.code
learn_none = link.linked-descriptions::learn_none
