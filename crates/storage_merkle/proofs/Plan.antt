pub mod Sites
pub mod ByPosition
pub mod Folds
pub mod Tops
pub mod Among
pub mod Own
