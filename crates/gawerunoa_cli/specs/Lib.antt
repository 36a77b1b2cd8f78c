pub mod Agreed
pub mod Claims
pub mod Kept
pub mod Rows
pub mod Shown
pub mod Status
