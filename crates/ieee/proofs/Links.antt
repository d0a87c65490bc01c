-- For a link: the table of this crate's functions, what it asks of the crates below it, and that each function that another crate calls is found with its own code and all that it calls.
-- `possible` puts the tables together and runs the entry points.
use mathlib.Core.Bool.{true}
use prog.Linked.{Tree, World, Holds, in_world}
use prog.LinkedThreads.{HasT}
use prog.Wired.{Code}
use Rattle.ieee.proofs.TheLink as link
use Rattle.ieee.proofs.TheLinks.ieee-band-is_within
use Rattle.ieee.proofs.TheLinks.ieee-number-is_finite
use Rattle.ieee.proofs.TheLinks.ieee-round-from_i64
use Rattle.ieee.proofs.TheLinks.ieee-round-round1
use Rattle.ieee.proofs.TheLinks.ieee-round-slices
use Rattle.ieee.proofs.TheLinks.ieee-times-is_clock
use Rattle.ieee.proofs.TheLinks.ieee-times-is_due
use Rattle.ieee.proofs.TheLinks.ieee-times-is_held_back
use Rattle.ieee.proofs.TheLinks.ieee-times-lesser
use Rattle.ieee.proofs.TheLinks.ieee-times-rate_seconds

abbrev pub table : Tree
table = link.table

abbrev pub Below : World → Type 0
Below W = link.Below W

abbrev pub Linked : Code → Type 0
Linked c = (W : World) → Holds W "ieee" table → Below W → HasT (in_world W) true c

pub band_is_within : Linked ieee-band-is_within.code
band_is_within = link.linked-ieee::band::is_within

pub number_is_finite : Linked ieee-number-is_finite.code
number_is_finite = link.linked-ieee::number::is_finite

pub round_from_i64 : Linked ieee-round-from_i64.code
round_from_i64 = link.linked-ieee::round::from_i64

pub round_round1 : Linked ieee-round-round1.code
round_round1 = link.linked-ieee::round::round1

pub round_slices : Linked ieee-round-slices.code
round_slices = link.linked-ieee::round::slices

pub times_is_clock : Linked ieee-times-is_clock.code
times_is_clock = link.linked-ieee::times::is_clock

pub times_is_due : Linked ieee-times-is_due.code
times_is_due = link.linked-ieee::times::is_due

pub times_is_held_back : Linked ieee-times-is_held_back.code
times_is_held_back = link.linked-ieee::times::is_held_back

pub times_lesser : Linked ieee-times-lesser.code
times_lesser = link.linked-ieee::times::lesser

pub times_rate_seconds : Linked ieee-times-rate_seconds.code
times_rate_seconds = link.linked-ieee::times::rate_seconds
