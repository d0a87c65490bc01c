-- For a link: the table of this crate's functions, what it asks of the crates below it, and that each function that another crate calls is found with its own code and all that it calls.
-- `possible` puts the tables together and runs the entry points.
use mathlib.Core.Bool.{true}
use prog.Linked.{Tree, World, Holds, in_world}
use prog.LinkedThreads.{HasT}
use prog.Wired.{Code}
use Rattle.table.proofs.TheLink as link
use Rattle.table.proofs.TheLinks.table-codec-GraceWordsFromOptionGrace-from
use Rattle.table.proofs.TheLinks.table-codec-description_from
use Rattle.table.proofs.TheLinks.table-codec-description_word
use Rattle.table.proofs.TheLinks.table-codec-grace_from
use Rattle.table.proofs.TheLinks.table-codec-settings_from
use Rattle.table.proofs.TheLinks.table-codec-timing_from
use Rattle.table.proofs.TheLinks.table-put_tag
use Rattle.table.proofs.TheLinks.table-tag-Settings-none
use Rattle.table.proofs.TheLinks.table-tag_of

abbrev pub table : Tree
table = link.table

abbrev pub Below : World → Type 0
Below W = link.Below W

abbrev pub Linked : Code → Type 0
Linked c = (W : World) → Holds W "table" table → Below W → HasT (in_world W) true c

pub codec_GraceWordsFromOptionGrace_from : Linked table-codec-GraceWordsFromOptionGrace-from.code
codec_GraceWordsFromOptionGrace_from = link.linked-table::codec::GraceWordsFromOptionGrace::from

pub codec_description_from : Linked table-codec-description_from.code
codec_description_from = link.linked-table::codec::description_from

pub codec_description_word : Linked table-codec-description_word.code
codec_description_word = link.linked-table::codec::description_word

pub codec_grace_from : Linked table-codec-grace_from.code
codec_grace_from = link.linked-table::codec::grace_from

pub codec_settings_from : Linked table-codec-settings_from.code
codec_settings_from = link.linked-table::codec::settings_from

pub codec_timing_from : Linked table-codec-timing_from.code
codec_timing_from = link.linked-table::codec::timing_from

pub put_tag : Linked table-put_tag.code
put_tag = link.linked-table::put_tag

pub tag_Settings_none : Linked table-tag-Settings-none.code
tag_Settings_none = link.linked-table::tag::Settings::none

pub tag_of : Linked table-tag_of.code
tag_of = link.linked-table::tag_of
