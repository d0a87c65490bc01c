-- For a link: the table of this crate's functions, what it asks of the crates below it, and that each function that another crate calls is found with its own code and all that it calls.
-- `possible` puts the tables together and runs the entry points.
use mathlib.Core.Bool.{true}
use prog.Linked.{Tree, World, Holds, in_world}
use prog.LinkedThreads.{HasT}
use prog.Wired.{Code}
use Rattle.panel.proofs.TheLink as link
use Rattle.panel.proofs.TheLinks.panel-check-check_panel
use Rattle.panel.proofs.TheLinks.panel-load-load_panel
use Rattle.panel.proofs.TheLinks.panel-write-write_panel

abbrev pub table : Tree
table = link.table

abbrev pub Below : World → Type 0
Below W = link.Below W

abbrev pub Linked : Code → Type 0
Linked c = (W : World) → Holds W "panel" table → Below W → HasT (in_world W) true c

pub check_check_panel : Linked panel-check-check_panel.code
check_check_panel = link.linked-panel::check::check_panel

pub load_load_panel : Linked panel-load-load_panel.code
load_load_panel = link.linked-panel::load::load_panel

pub write_write_panel : Linked panel-write-write_panel.code
write_write_panel = link.linked-panel::write::write_panel
