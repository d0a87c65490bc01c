-- For a link: the table of this crate's functions, what it asks of the crates below it, and that each function that another crate calls is found with its own code and all that it calls.
-- `possible` puts the tables together and runs the entry points.
use mathlib.Core.Bool.{true}
use prog.Linked.{Tree, World, Holds, in_world}
use prog.LinkedThreads.{HasT}
use prog.Wired.{Code}
use Rattle.versions.proofs.TheLink as link
use Rattle.versions.proofs.TheLinks.versions-check-check_version
use Rattle.versions.proofs.TheLinks.versions-check-take_all

abbrev pub table : Tree
table = link.table

abbrev pub Below : World → Type 0
Below W = link.Below W

abbrev pub Linked : Code → Type 0
Linked c = (W : World) → Holds W "versions" table → Below W → HasT (in_world W) true c

pub check_check_version : Linked versions-check-check_version.code
check_check_version = link.linked-versions::check::check_version

pub check_take_all : Linked versions-check-take_all.code
check_take_all = link.linked-versions::check::take_all
