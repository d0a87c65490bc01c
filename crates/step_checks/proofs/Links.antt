-- For a link: the table of this crate's functions, what it asks of the crates below it, and that each function that another crate calls is found with its own code and all that it calls.
-- `possible` puts the tables together and runs the entry points.
use mathlib.Core.Bool.{true}
use prog.Linked.{Tree, World, Holds, in_world}
use prog.LinkedThreads.{HasT}
use prog.Wired.{Code}
use Rattle.step_checks.proofs.TheLink as link
use Rattle.step_checks.proofs.TheLinks.step_checks-answer-kind_from
use Rattle.step_checks.proofs.TheLinks.step_checks-awaiting-step_check

abbrev pub table : Tree
table = link.table

abbrev pub Below : World → Type 0
Below W = link.Below W

abbrev pub Linked : Code → Type 0
Linked c = (W : World) → Holds W "step_checks" table → Below W → HasT (in_world W) true c

pub answer_kind_from : Linked step_checks-answer-kind_from.code
answer_kind_from = link.linked-step_checks::answer::kind_from

pub awaiting_step_check : Linked step_checks-awaiting-step_check.code
awaiting_step_check = link.linked-step_checks::awaiting::step_check
