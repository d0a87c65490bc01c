-- For a link: the table of this crate's functions, what it asks of the crates below it, and that each function that another crate calls is found with its own code and all that it calls.
-- `possible` puts the tables together and runs the entry points.
use mathlib.Core.Bool.{true}
use prog.Linked.{Tree, World, Holds, in_world}
use prog.LinkedThreads.{HasT}
use prog.Wired.{Code}
use Rattle.entries.proofs.TheLink as link
use Rattle.entries.proofs.TheLinks.entries-cached_of
use Rattle.entries.proofs.TheLinks.entries-cached_words
use Rattle.entries.proofs.TheLinks.entries-forget
use Rattle.entries.proofs.TheLinks.entries-published_of
use Rattle.entries.proofs.TheLinks.entries-put_cached
use Rattle.entries.proofs.TheLinks.entries-put_published

abbrev pub table : Tree
table = link.table

abbrev pub Below : World → Type 0
Below W = link.Below W

abbrev pub Linked : Code → Type 0
Linked c = (W : World) → Holds W "entries" table → Below W → HasT (in_world W) true c

pub cached_of : Linked entries-cached_of.code
cached_of = link.linked-entries::cached_of

pub cached_words : Linked entries-cached_words.code
cached_words = link.linked-entries::cached_words

pub forget : Linked entries-forget.code
forget = link.linked-entries::forget

pub published_of : Linked entries-published_of.code
published_of = link.linked-entries::published_of

pub put_cached : Linked entries-put_cached.code
put_cached = link.linked-entries::put_cached

pub put_published : Linked entries-put_published.code
put_published = link.linked-entries::put_published
