pub mod Requests
pub mod Lists
pub mod Pages
pub mod Openings
