-- For a link: the table of this crate's functions, what it asks of the crates below it, and that each function that another crate calls is found with its own code and all that it calls.
-- `possible` puts the tables together and runs the entry points.
use mathlib.Core.Bool.{true}
use prog.Linked.{Tree, World, Holds, in_world}
use prog.LinkedThreads.{HasT}
use prog.Wired.{Code}
use Rattle.step_answers.proofs.TheLink as link
use Rattle.step_answers.proofs.TheLinks.step_answers-answers-back_applied
use Rattle.step_answers.proofs.TheLinks.step_answers-answers-backed_off
use Rattle.step_answers.proofs.TheLinks.step_answers-answers-connected
use Rattle.step_answers.proofs.TheLinks.step_answers-answers-descriptions
use Rattle.step_answers.proofs.TheLinks.step_answers-answers-open_version
use Rattle.step_answers.proofs.TheLinks.step_answers-answers-opened
use Rattle.step_answers.proofs.TheLinks.step_answers-answers-read_back
use Rattle.step_answers.proofs.TheLinks.step_answers-answers-results
use Rattle.step_answers.proofs.TheLinks.step_answers-answers-round_version
use Rattle.step_answers.proofs.TheLinks.step_answers-answers-waited
use Rattle.step_answers.proofs.TheLinks.step_answers-answers-written

abbrev pub table : Tree
table = link.table

abbrev pub Below : World → Type 0
Below W = link.Below W

abbrev pub Linked : Code → Type 0
Linked c = (W : World) → Holds W "step_answers" table → Below W → HasT (in_world W) true c

pub answers_back_applied : Linked step_answers-answers-back_applied.code
answers_back_applied = link.linked-step_answers::answers::back_applied

pub answers_backed_off : Linked step_answers-answers-backed_off.code
answers_backed_off = link.linked-step_answers::answers::backed_off

pub answers_connected : Linked step_answers-answers-connected.code
answers_connected = link.linked-step_answers::answers::connected

pub answers_descriptions : Linked step_answers-answers-descriptions.code
answers_descriptions = link.linked-step_answers::answers::descriptions

pub answers_open_version : Linked step_answers-answers-open_version.code
answers_open_version = link.linked-step_answers::answers::open_version

pub answers_opened : Linked step_answers-answers-opened.code
answers_opened = link.linked-step_answers::answers::opened

pub answers_read_back : Linked step_answers-answers-read_back.code
answers_read_back = link.linked-step_answers::answers::read_back

pub answers_results : Linked step_answers-answers-results.code
answers_results = link.linked-step_answers::answers::results

pub answers_round_version : Linked step_answers-answers-round_version.code
answers_round_version = link.linked-step_answers::answers::round_version

pub answers_waited : Linked step_answers-answers-waited.code
answers_waited = link.linked-step_answers::answers::waited

pub answers_written : Linked step_answers-answers-written.code
answers_written = link.linked-step_answers::answers::written
