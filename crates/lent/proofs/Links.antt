-- For a link: the table of this crate's functions, what it asks of the crates below it, and that each function that another crate calls is found with its own code and all that it calls.
-- `possible` puts the tables together and runs the entry points.
use mathlib.Core.Bool.{true}
use prog.Linked.{Tree, World, Holds, in_world}
use prog.LinkedThreads.{HasT}
use prog.Wired.{Code}
use Rattle.lent.proofs.TheLink as link
use Rattle.lent.proofs.TheLinks.lent-changes-put_changes
use Rattle.lent.proofs.TheLinks.lent-put_bytes
use Rattle.lent.proofs.TheLinks.lent-put_record
use Rattle.lent.proofs.TheLinks.lent-put_tags

abbrev pub table : Tree
table = link.table

abbrev pub Below : World → Type 0
Below W = link.Below W

abbrev pub Linked : Code → Type 0
Linked c = (W : World) → Holds W "lent" table → Below W → HasT (in_world W) true c

pub changes_put_changes : Linked lent-changes-put_changes.code
changes_put_changes = link.linked-lent::changes::put_changes

pub put_bytes : Linked lent-put_bytes.code
put_bytes = link.linked-lent::put_bytes

pub put_record : Linked lent-put_record.code
put_record = link.linked-lent::put_record

pub put_tags : Linked lent-put_tags.code
put_tags = link.linked-lent::put_tags
