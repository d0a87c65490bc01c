-- Laws that only this crate's proofs need.
mod Laws
