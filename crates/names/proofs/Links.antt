-- For a link: the table of this crate's functions, what it asks of the crates below it, and that each function that another crate calls is found with its own code and all that it calls.
-- `possible` puts the tables together and runs the entry points.
use mathlib.Core.Bool.{true}
use prog.Linked.{Tree, World, Holds, in_world}
use prog.LinkedThreads.{HasT}
use prog.Wired.{Code}
use Rattle.names.proofs.TheLink as link
use Rattle.names.proofs.TheLinks.names-directory-Directory-check
use Rattle.names.proofs.TheLinks.names-directory-Directory-count
use Rattle.names.proofs.TheLinks.names-directory-Directory-is_bit
use Rattle.names.proofs.TheLinks.names-directory-Directory-sort_key
use Rattle.names.proofs.TheLinks.names-directory-Directory-word_of

abbrev pub table : Tree
table = link.table

abbrev pub Below : World → Type 0
Below W = link.Below W

abbrev pub Linked : Code → Type 0
Linked c = (W : World) → Holds W "names" table → Below W → HasT (in_world W) true c

pub directory_Directory_check : Linked names-directory-Directory-check.code
directory_Directory_check = link.linked-names::directory::Directory::check

pub directory_Directory_count : Linked names-directory-Directory-count.code
directory_Directory_count = link.linked-names::directory::Directory::count

pub directory_Directory_is_bit : Linked names-directory-Directory-is_bit.code
directory_Directory_is_bit = link.linked-names::directory::Directory::is_bit

pub directory_Directory_sort_key : Linked names-directory-Directory-sort_key.code
directory_Directory_sort_key = link.linked-names::directory::Directory::sort_key

pub directory_Directory_word_of : Linked names-directory-Directory-word_of.code
directory_Directory_word_of = link.linked-names::directory::Directory::word_of
