-- For a link: the table of this crate's functions, what it asks of the crates below it, and that each function that another crate calls is found with its own code and all that it calls.
-- `possible` puts the tables together and runs the entry points.
use mathlib.Core.Bool.{true}
use prog.Linked.{Tree, World, Holds, in_world}
use prog.LinkedThreads.{HasT}
use prog.Wired.{Code}
use Rattle.fields.proofs.TheLink as link
use Rattle.fields.proofs.TheLinks.fields-added_of
use Rattle.fields.proofs.TheLinks.fields-description_of
use Rattle.fields.proofs.TheLinks.fields-forget_last
use Rattle.fields.proofs.TheLinks.fields-grace_of
use Rattle.fields.proofs.TheLinks.fields-put_added
use Rattle.fields.proofs.TheLinks.fields-put_after
use Rattle.fields.proofs.TheLinks.fields-put_description
use Rattle.fields.proofs.TheLinks.fields-put_last
use Rattle.fields.proofs.TheLinks.fields-put_mark
use Rattle.fields.proofs.TheLinks.fields-put_standing
use Rattle.fields.proofs.TheLinks.fields-put_wants
use Rattle.fields.proofs.TheLinks.fields-settings_of
use Rattle.fields.proofs.TheLinks.fields-tier_of
use Rattle.fields.proofs.TheLinks.fields-timing_of
use Rattle.fields.proofs.TheLinks.fields-wants_of

abbrev pub table : Tree
table = link.table

abbrev pub Below : World → Type 0
Below W = link.Below W

abbrev pub Linked : Code → Type 0
Linked c = (W : World) → Holds W "fields" table → Below W → HasT (in_world W) true c

pub added_of : Linked fields-added_of.code
added_of = link.linked-fields::added_of

pub description_of : Linked fields-description_of.code
description_of = link.linked-fields::description_of

pub forget_last : Linked fields-forget_last.code
forget_last = link.linked-fields::forget_last

pub grace_of : Linked fields-grace_of.code
grace_of = link.linked-fields::grace_of

pub put_added : Linked fields-put_added.code
put_added = link.linked-fields::put_added

pub put_after : Linked fields-put_after.code
put_after = link.linked-fields::put_after

pub put_description : Linked fields-put_description.code
put_description = link.linked-fields::put_description

pub put_last : Linked fields-put_last.code
put_last = link.linked-fields::put_last

pub put_mark : Linked fields-put_mark.code
put_mark = link.linked-fields::put_mark

pub put_standing : Linked fields-put_standing.code
put_standing = link.linked-fields::put_standing

pub put_wants : Linked fields-put_wants.code
put_wants = link.linked-fields::put_wants

pub settings_of : Linked fields-settings_of.code
settings_of = link.linked-fields::settings_of

pub tier_of : Linked fields-tier_of.code
tier_of = link.linked-fields::tier_of

pub timing_of : Linked fields-timing_of.code
timing_of = link.linked-fields::timing_of

pub wants_of : Linked fields-wants_of.code
wants_of = link.linked-fields::wants_of
