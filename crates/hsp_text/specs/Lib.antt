pub mod Answers
pub mod Whole
pub mod Name
pub mod Lines
pub mod Input
pub mod Writing
