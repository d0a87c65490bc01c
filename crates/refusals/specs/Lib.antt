-- The refusals of document 01.
pub mod Refusals
