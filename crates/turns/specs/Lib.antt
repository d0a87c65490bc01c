-- Demand 3. `Demand`: the claim about lists of calls. `Calls`: what the rules make of each call. `EntryContracts`: the contracts of the entry points, by call.
-- `Once`: a step needs no second round. That every list of calls has a history is in the crate `possible`, that no list is ever cut in `uncut`.
pub mod Calls
pub mod EntryContracts
pub mod Demand
pub mod Once
