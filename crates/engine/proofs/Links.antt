-- For a link: the table of this crate's functions, what it asks of the crates below it, and that each function that another crate calls is found with its own code and all that it calls.
-- `possible` puts the tables together and runs the entry points.
use mathlib.Core.Bool.{true}
use prog.Linked.{Tree, World, Holds, in_world}
use prog.LinkedThreads.{HasT}
use prog.Wired.{Code}
use Rattle.engine.proofs.TheLink as link
use Rattle.engine.proofs.TheLinks.engine-Engine-backoff
use Rattle.engine.proofs.TheLinks.engine-Engine-fresh
use Rattle.engine.proofs.TheLinks.engine-Engine-retry_at
use Rattle.engine.proofs.TheLinks.engine-load
use Rattle.engine.proofs.TheLinks.engine-put_clock
use Rattle.engine.proofs.TheLinks.engine-store
use Rattle.engine.proofs.TheLinks.engine-with_clock
use Rattle.engine.proofs.TheLinks.engine-with_cycle
use Rattle.engine.proofs.TheLinks.engine-with_link
use Rattle.engine.proofs.TheLinks.engine-with_progress
use Rattle.engine.proofs.TheLinks.engine-with_stats

abbrev pub table : Tree
table = link.table

abbrev pub Below : World → Type 0
Below W = link.Below W

abbrev pub Linked : Code → Type 0
Linked c = (W : World) → Holds W "engine" table → Below W → HasT (in_world W) true c

pub Engine_backoff : Linked engine-Engine-backoff.code
Engine_backoff = link.linked-engine::Engine::backoff

pub Engine_fresh : Linked engine-Engine-fresh.code
Engine_fresh = link.linked-engine::Engine::fresh

pub Engine_retry_at : Linked engine-Engine-retry_at.code
Engine_retry_at = link.linked-engine::Engine::retry_at

pub load : Linked engine-load.code
load = link.linked-engine::load

pub put_clock : Linked engine-put_clock.code
put_clock = link.linked-engine::put_clock

pub store : Linked engine-store.code
store = link.linked-engine::store

pub with_clock : Linked engine-with_clock.code
with_clock = link.linked-engine::with_clock

pub with_cycle : Linked engine-with_cycle.code
with_cycle = link.linked-engine::with_cycle

pub with_link : Linked engine-with_link.code
with_link = link.linked-engine::with_link

pub with_progress : Linked engine-with_progress.code
with_progress = link.linked-engine::with_progress

pub with_stats : Linked engine-with_stats.code
with_stats = link.linked-engine::with_stats
