pub mod Kept
pub mod Cuts
mod Consuming
pub mod Numerals
pub mod Lists
pub mod Steps
