-- For a link: the table of this crate's functions, what it asks of the crates below it, and that each function that another crate calls is found with its own code and all that it calls.
-- `possible` puts the tables together and runs the entry points.
use mathlib.Core.Bool.{true}
use prog.Linked.{Tree, World, Holds, in_world}
use prog.LinkedThreads.{HasT}
use prog.Wired.{Code}
use Rattle.capi.proofs.TheLink as link
use Rattle.capi.proofs.TheLinks.capi-calls-wz_load
use Rattle.capi.proofs.TheLinks.capi-calls-wz_set_tier
use Rattle.capi.proofs.TheLinks.capi-calls-wz_step
use Rattle.capi.proofs.TheLinks.capi-calls-wz_stop
use Rattle.capi.proofs.TheLinks.capi-calls-wz_write
use Rattle.capi.proofs.TheLinks.capi-creation-wz_create

abbrev pub table : Tree
table = link.table

abbrev pub Below : World → Type 0
Below W = link.Below W

abbrev pub Linked : Code → Type 0
Linked c = (W : World) → Holds W "capi" table → Below W → HasT (in_world W) true c

pub calls_wz_load : Linked capi-calls-wz_load.code
calls_wz_load = link.linked-capi::calls::wz_load

pub calls_wz_set_tier : Linked capi-calls-wz_set_tier.code
calls_wz_set_tier = link.linked-capi::calls::wz_set_tier

pub calls_wz_step : Linked capi-calls-wz_step.code
calls_wz_step = link.linked-capi::calls::wz_step

pub calls_wz_stop : Linked capi-calls-wz_stop.code
calls_wz_stop = link.linked-capi::calls::wz_stop

pub calls_wz_write : Linked capi-calls-wz_write.code
calls_wz_write = link.linked-capi::calls::wz_write

pub creation_wz_create : Linked capi-creation-wz_create.code
creation_wz_create = link.linked-capi::creation::wz_create
