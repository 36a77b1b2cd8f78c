pub mod Expand
pub mod Sound
pub mod Nodes
pub mod Match
pub mod Checks
pub mod Meaning
pub mod Own
