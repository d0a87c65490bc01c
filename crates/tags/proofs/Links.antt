-- For a link: the table of this crate's functions, what it asks of the crates below it, and that each function that another crate calls is found with its own code and all that it calls.
-- `possible` puts the tables together and runs the entry points.
use mathlib.Core.Bool.{true}
use prog.Linked.{Tree, World, Holds, in_world}
use prog.LinkedThreads.{HasT}
use prog.Wired.{Code}
use Rattle.tags.proofs.TheLink as link
use Rattle.tags.proofs.TheLinks.tags-at
use Rattle.tags.proofs.TheLinks.tags-clear
use Rattle.tags.proofs.TheLinks.tags-contains
use Rattle.tags.proofs.TheLinks.tags-count
use Rattle.tags.proofs.TheLinks.tags-insert_at
use Rattle.tags.proofs.TheLinks.tags-push
use Rattle.tags.proofs.TheLinks.tags-room_of
use Rattle.tags.proofs.TheLinks.tags-shorten

abbrev pub table : Tree
table = link.table

abbrev pub Below : World → Type 0
Below W = link.Below W

abbrev pub Linked : Code → Type 0
Linked c = (W : World) → Holds W "tags" table → Below W → HasT (in_world W) true c

pub at : Linked tags-at.code
at = link.linked-tags::at

pub clear : Linked tags-clear.code
clear = link.linked-tags::clear

pub contains : Linked tags-contains.code
contains = link.linked-tags::contains

pub count : Linked tags-count.code
count = link.linked-tags::count

pub insert_at : Linked tags-insert_at.code
insert_at = link.linked-tags::insert_at

pub push : Linked tags-push.code
push = link.linked-tags::push

pub room_of : Linked tags-room_of.code
room_of = link.linked-tags::room_of

pub shorten : Linked tags-shorten.code
shorten = link.linked-tags::shorten
