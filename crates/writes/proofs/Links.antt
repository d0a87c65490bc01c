-- For a link: the table of this crate's functions, what it asks of the crates below it, and that each function that another crate calls is found with its own code and all that it calls.
-- `possible` puts the tables together and runs the entry points.
use mathlib.Core.Bool.{true}
use prog.Linked.{Tree, World, Holds, in_world}
use prog.LinkedThreads.{HasT}
use prog.Wired.{Code}
use Rattle.writes.proofs.TheLink as link
use Rattle.writes.proofs.TheLinks.writes-failing-fail_writes
use Rattle.writes.proofs.TheLinks.writes-readback-ask_read_back
use Rattle.writes.proofs.TheLinks.writes-readback-keep_back
use Rattle.writes.proofs.TheLinks.writes-readback-read_back_value
use Rattle.writes.proofs.TheLinks.writes-request-put_asked

abbrev pub table : Tree
table = link.table

abbrev pub Below : World → Type 0
Below W = link.Below W

abbrev pub Linked : Code → Type 0
Linked c = (W : World) → Holds W "writes" table → Below W → HasT (in_world W) true c

pub failing_fail_writes : Linked writes-failing-fail_writes.code
failing_fail_writes = link.linked-writes::failing::fail_writes

pub readback_ask_read_back : Linked writes-readback-ask_read_back.code
readback_ask_read_back = link.linked-writes::readback::ask_read_back

pub readback_keep_back : Linked writes-readback-keep_back.code
readback_keep_back = link.linked-writes::readback::keep_back

pub readback_read_back_value : Linked writes-readback-read_back_value.code
readback_read_back_value = link.linked-writes::readback::read_back_value

pub request_put_asked : Linked writes-request-put_asked.code
request_put_asked = link.linked-writes::request::put_asked
