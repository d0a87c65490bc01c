-- Document 01's round lister: its lines. Definitions only.
pub mod Line
pub mod Write
