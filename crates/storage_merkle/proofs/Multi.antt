pub mod Sound
pub mod Own
pub mod Claims
pub mod Needed
pub mod Nodes
pub mod Checks
pub mod Meaning
