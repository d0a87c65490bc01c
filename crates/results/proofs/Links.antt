-- For a link: the table of this crate's functions, what it asks of the crates below it, and that each function that another crate calls is found with its own code and all that it calls.
-- `possible` puts the tables together and runs the entry points.
use mathlib.Core.Bool.{true}
use prog.Linked.{Tree, World, Holds, in_world}
use prog.LinkedThreads.{HasT}
use prog.Wired.{Code}
use Rattle.results.proofs.TheLink as link
use Rattle.results.proofs.TheLinks.results-check-check_results
use Rattle.results.proofs.TheLinks.results-check-is_finite_value
use Rattle.results.proofs.TheLinks.results-result-result_at

abbrev pub table : Tree
table = link.table

abbrev pub Below : World → Type 0
Below W = link.Below W

abbrev pub Linked : Code → Type 0
Linked c = (W : World) → Holds W "results" table → Below W → HasT (in_world W) true c

pub check_check_results : Linked results-check-check_results.code
check_check_results = link.linked-results::check::check_results

pub check_is_finite_value : Linked results-check-is_finite_value.code
check_is_finite_value = link.linked-results::check::is_finite_value

pub result_result_at : Linked results-result-result_at.code
result_result_at = link.linked-results::result::result_at
