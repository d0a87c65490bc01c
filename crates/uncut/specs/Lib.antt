-- `Uncut`: no list is ever cut. `Looks`: nor is what looks give. `Backs`: nor are the results of a read-back while they wait.
pub mod Uncut
pub mod Looks
pub mod Backs
