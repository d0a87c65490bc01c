-- For a link: the table of this crate's functions, what it asks of the crates below it, and that each function that another crate calls is found with its own code and all that it calls.
-- `possible` puts the tables together and runs the entry points.
use mathlib.Core.Bool.{true}
use prog.Linked.{Tree, World, Holds, in_world}
use prog.LinkedThreads.{HasT}
use prog.Wired.{Code}
use Rattle.replies.proofs.TheLink as link
use Rattle.replies.proofs.TheLinks.replies-losing-backing_off
use Rattle.replies.proofs.TheLinks.replies-losing-disconnected
use Rattle.replies.proofs.TheLinks.replies-losing-down
use Rattle.replies.proofs.TheLinks.replies-losing-ended
use Rattle.replies.proofs.TheLinks.replies-losing-failing
use Rattle.replies.proofs.TheLinks.replies-losing-phased
use Rattle.replies.proofs.TheLinks.replies-losing-staling
use Rattle.replies.proofs.TheLinks.replies-losing-top
use Rattle.replies.proofs.TheLinks.replies-reply-Reply-refused
use Rattle.replies.proofs.TheLinks.replies-response-Response-reply

abbrev pub table : Tree
table = link.table

abbrev pub Below : World → Type 0
Below W = link.Below W

abbrev pub Linked : Code → Type 0
Linked c = (W : World) → Holds W "replies" table → Below W → HasT (in_world W) true c

pub losing_backing_off : Linked replies-losing-backing_off.code
losing_backing_off = link.linked-replies::losing::backing_off

pub losing_disconnected : Linked replies-losing-disconnected.code
losing_disconnected = link.linked-replies::losing::disconnected

pub losing_down : Linked replies-losing-down.code
losing_down = link.linked-replies::losing::down

pub losing_ended : Linked replies-losing-ended.code
losing_ended = link.linked-replies::losing::ended

pub losing_failing : Linked replies-losing-failing.code
losing_failing = link.linked-replies::losing::failing

pub losing_phased : Linked replies-losing-phased.code
losing_phased = link.linked-replies::losing::phased

pub losing_staling : Linked replies-losing-staling.code
losing_staling = link.linked-replies::losing::staling

pub losing_top : Linked replies-losing-top.code
losing_top = link.linked-replies::losing::top

pub reply_Reply_refused : Linked replies-reply-Reply-refused.code
reply_Reply_refused = link.linked-replies::reply::Reply::refused

pub response_Response_reply : Linked replies-response-Response-reply.code
response_Response_reply = link.linked-replies::response::Response::reply
