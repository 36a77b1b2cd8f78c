pub mod Agreed
pub mod Kept
pub mod Tables
pub mod Given
pub mod Contents
pub mod Refusals
pub mod Restart
pub mod Journals
