pub mod Nodes
pub mod Tops
pub mod Sites
pub mod Bags
pub mod Siblings
pub mod Roots
