mod Lists
mod LastRows
mod Storing
mod Commands
mod Refused
mod Opened
mod Back
mod Compacted
