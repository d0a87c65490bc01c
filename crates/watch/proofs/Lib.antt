-- What the records read of a step's list are.
pub mod EventLaws
