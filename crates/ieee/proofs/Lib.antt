-- Laws that only this crate's proofs need.
mod Rounded
mod Nudge
mod Even
mod Cast
mod BandLaws
-- Laws of floats that other crates cite.
-- `Order`: `le` and `lt`. `Sums`: sums keep the order. `Finite`: what is finite. `Least`: the lesser of two. `Bound`: S is from 1 to 2 ^ 27.
pub mod Order
pub mod Sums
pub mod Finite
pub mod Least
pub mod Bound
pub mod Links
