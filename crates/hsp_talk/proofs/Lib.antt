pub mod LineLaws
pub mod Rows
pub mod Talks
pub mod Writing
