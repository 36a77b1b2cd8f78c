pub mod KeyWire
pub mod Grafting
pub mod CurrentWire
pub mod WitnessWire
pub mod Retained
