pub mod ReadingCommits
pub mod Starts
pub mod Padded
mod OwnStores
mod Verify
