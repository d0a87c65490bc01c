-- Lists of tags in lent memory. Definitions only.
pub mod Lists
