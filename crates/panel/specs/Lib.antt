-- Rule 11 and checks 51 to 55.
pub mod Panel
