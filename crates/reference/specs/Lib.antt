pub mod Layouts
pub mod Sites
