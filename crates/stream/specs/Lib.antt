-- What a listing keeps of its calls.
pub mod Calls
