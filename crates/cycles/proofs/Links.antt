-- For a link: the table of this crate's functions, what it asks of the crates below it, and that each function that another crate calls is found with its own code and all that it calls.
-- `possible` puts the tables together and runs the entry points.
use mathlib.Core.Bool.{true}
use prog.Linked.{Tree, World, Holds, in_world}
use prog.LinkedThreads.{HasT}
use prog.Wired.{Code}
use Rattle.cycles.proofs.TheLink as link
use Rattle.cycles.proofs.TheLinks.cycles-polling-checking
use Rattle.cycles.proofs.TheLinks.cycles-polling-finish
use Rattle.cycles.proofs.TheLinks.cycles-polling-polls
use Rattle.cycles.proofs.TheLinks.cycles-polling-reading
use Rattle.cycles.proofs.TheLinks.cycles-polling-writing

abbrev pub table : Tree
table = link.table

abbrev pub Below : World → Type 0
Below W = link.Below W

abbrev pub Linked : Code → Type 0
Linked c = (W : World) → Holds W "cycles" table → Below W → HasT (in_world W) true c

pub polling_checking : Linked cycles-polling-checking.code
polling_checking = link.linked-cycles::polling::checking

pub polling_finish : Linked cycles-polling-finish.code
polling_finish = link.linked-cycles::polling::finish

pub polling_polls : Linked cycles-polling-polls.code
polling_polls = link.linked-cycles::polling::polls

pub polling_reading : Linked cycles-polling-reading.code
polling_reading = link.linked-cycles::polling::reading

pub polling_writing : Linked cycles-polling-writing.code
polling_writing = link.linked-cycles::polling::writing
