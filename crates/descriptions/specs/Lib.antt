-- Rule 8: descriptions.
pub mod Descriptions
