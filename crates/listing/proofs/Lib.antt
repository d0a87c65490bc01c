-- Laws that only this crate's proofs need, and document 01's example.
mod Fields
mod Lines
mod Examples
-- Laws that other crates cite.
-- `Read`: what a line that is read holds. `Decimal`: digits. `Joined`: lines of fields. `Put`: a line that grows.
pub mod Read
pub mod Decimal
pub mod Joined
pub mod Put
