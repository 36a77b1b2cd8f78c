pub mod Agreed
pub mod Agreement
pub mod Answers
pub mod ByteStrings
pub mod KeyBytes
pub mod KeyParts
pub mod SizedStrings
pub mod StringKeys
