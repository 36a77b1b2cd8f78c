pub mod Light
pub mod LightKeys
pub mod LightRanges
pub mod Handed
pub mod LightDatabases
