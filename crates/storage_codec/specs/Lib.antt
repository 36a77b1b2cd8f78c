pub mod Faults
pub mod Parts
pub mod Codec
pub mod Padding
pub mod Digests
pub mod DigestValues
pub mod Laws
