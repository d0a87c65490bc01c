-- `Typed`: the arguments that a host can pass, and that every list of such calls has a history. `Creations`: the same of creation, and of both together.
pub mod Typed
pub mod Creations
