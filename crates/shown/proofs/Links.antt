-- For a link: the table of this crate's functions, what it asks of the crates below it, and that each function that another crate calls is found with its own code and all that it calls.
-- `possible` puts the tables together and runs the entry points.
use mathlib.Core.Bool.{true}
use prog.Linked.{Tree, World, Holds, in_world}
use prog.LinkedThreads.{HasT}
use prog.Wired.{Code}
use Rattle.shown.proofs.TheLink as link
use Rattle.shown.proofs.TheLinks.shown-counts-counts_of
use Rattle.shown.proofs.TheLinks.shown-counts-no_counts
use Rattle.shown.proofs.TheLinks.shown-head-no_state
use Rattle.shown.proofs.TheLinks.shown-head-no_stats
use Rattle.shown.proofs.TheLinks.shown-head-state_of
use Rattle.shown.proofs.TheLinks.shown-head-stats_of
use Rattle.shown.proofs.TheLinks.shown-list_looks-group_stats
use Rattle.shown.proofs.TheLinks.shown-list_looks-listed
use Rattle.shown.proofs.TheLinks.shown-list_looks-panel
use Rattle.shown.proofs.TheLinks.shown-list_looks-table
use Rattle.shown.proofs.TheLinks.shown-tag-no_look
use Rattle.shown.proofs.TheLinks.shown-tag-tag

abbrev pub table : Tree
table = link.table

abbrev pub Below : World → Type 0
Below W = link.Below W

abbrev pub Linked : Code → Type 0
Linked c = (W : World) → Holds W "shown" table → Below W → HasT (in_world W) true c

pub counts_counts_of : Linked shown-counts-counts_of.code
counts_counts_of = link.linked-shown::counts::counts_of

pub counts_no_counts : Linked shown-counts-no_counts.code
counts_no_counts = link.linked-shown::counts::no_counts

pub head_no_state : Linked shown-head-no_state.code
head_no_state = link.linked-shown::head::no_state

pub head_no_stats : Linked shown-head-no_stats.code
head_no_stats = link.linked-shown::head::no_stats

pub head_state_of : Linked shown-head-state_of.code
head_state_of = link.linked-shown::head::state_of

pub head_stats_of : Linked shown-head-stats_of.code
head_stats_of = link.linked-shown::head::stats_of

pub list_looks_group_stats : Linked shown-list_looks-group_stats.code
list_looks_group_stats = link.linked-shown::list_looks::group_stats

pub list_looks_listed : Linked shown-list_looks-listed.code
list_looks_listed = link.linked-shown::list_looks::listed

pub list_looks_panel : Linked shown-list_looks-panel.code
list_looks_panel = link.linked-shown::list_looks::panel

pub list_looks_table : Linked shown-list_looks-table.code
list_looks_table = link.linked-shown::list_looks::table

pub tag_no_look : Linked shown-tag-no_look.code
tag_no_look = link.linked-shown::tag::no_look

pub tag_tag : Linked shown-tag-tag.code
tag_tag = link.linked-shown::tag::tag
