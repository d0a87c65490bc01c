-- For a link: the table of this crate's functions, what it asks of the crates below it, and that each function that another crate calls is found with its own code and all that it calls.
-- `possible` puts the tables together and runs the entry points.
use mathlib.Core.Bool.{true}
use prog.Linked.{Tree, World, Holds, in_world}
use prog.LinkedThreads.{HasT}
use prog.Wired.{Code}
use Rattle.queue.proofs.TheLink as link
use Rattle.queue.proofs.TheLinks.queue-clear
use Rattle.queue.proofs.TheLinks.queue-list_queued
use Rattle.queue.proofs.TheLinks.queue-pop
use Rattle.queue.proofs.TheLinks.queue-push
use Rattle.queue.proofs.TheLinks.queue-queued

abbrev pub table : Tree
table = link.table

abbrev pub Below : World → Type 0
Below W = link.Below W

abbrev pub Linked : Code → Type 0
Linked c = (W : World) → Holds W "queue" table → Below W → HasT (in_world W) true c

pub clear : Linked queue-clear.code
clear = link.linked-queue::clear

pub list_queued : Linked queue-list_queued.code
list_queued = link.linked-queue::list_queued

pub pop : Linked queue-pop.code
pop = link.linked-queue::pop

pub push : Linked queue-push.code
push = link.linked-queue::push

pub queued : Linked queue-queued.code
queued = link.linked-queue::queued
