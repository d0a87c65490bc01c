-- Rule 7: the readings of a list of tags, in tag order. Definitions only.
pub mod Order
