pub mod Refusals
pub mod Stored
pub mod Opened
pub mod Compacted
