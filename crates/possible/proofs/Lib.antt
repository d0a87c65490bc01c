-- `PossibleLaws`: every list of calls has a history. `CreationLaws`: creation has a result, so there is an engine for every setup. `Example`: a turn, computed;
-- `Exists`: its calls have a history from a memory that creation leaves (`Fresh`), and demand 3 holds of it. `CodeMeets`: the code meets the contracts that the claim
-- cites. `World`: all the code that the entry points reach, in one environment.
-- The others lead from a function's theorem to a result that its contract allows (`RunLaws`, `OneLaws`, `PlainRuns`, `LoadRuns`, `StepRuns`, `BlockRuns`, `CreateRuns`).
pub mod CodeMeets
pub mod World
pub mod RunLaws
pub mod OneLaws
pub mod PlainRuns
pub mod LoadRuns
pub mod StepRuns
pub mod PossibleLaws
pub mod BlockRuns
pub mod CreateRuns
pub mod CreationLaws
mod Fresh
mod Example
mod Exists
