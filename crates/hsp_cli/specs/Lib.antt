pub mod Failing
pub mod Files
pub mod Answers
pub mod Printing
pub mod Dispatching
pub mod Commands
pub mod Ending
pub mod Words
