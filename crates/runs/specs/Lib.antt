-- What a lent run of records holds. Definitions only.
pub mod Run
