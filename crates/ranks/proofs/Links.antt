-- For a link: the table of this crate's functions, what it asks of the crates below it, and that each function that another crate calls is found with its own code and all that it calls.
-- `possible` puts the tables together and runs the entry points.
use mathlib.Core.Bool.{true}
use prog.Linked.{Tree, World, Holds, in_world}
use prog.LinkedThreads.{HasT}
use prog.Wired.{Code}
use Rattle.ranks.proofs.TheLink as link
use Rattle.ranks.proofs.TheLinks.ranks-fill_keys
use Rattle.ranks.proofs.TheLinks.ranks-fill_words

abbrev pub table : Tree
table = link.table

abbrev pub Below : World → Type 0
Below W = link.Below W

abbrev pub Linked : Code → Type 0
Linked c = (W : World) → Holds W "ranks" table → Below W → HasT (in_world W) true c

pub fill_keys : Linked ranks-fill_keys.code
fill_keys = link.linked-ranks::fill_keys

pub fill_words : Linked ranks-fill_words.code
fill_words = link.linked-ranks::fill_words
