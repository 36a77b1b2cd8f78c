pub mod Chunks
pub mod Packed
pub mod BitRoots
pub mod BitProofs
pub mod BitParts
pub mod StandsForBits
