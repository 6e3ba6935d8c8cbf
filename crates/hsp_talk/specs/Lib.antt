pub mod Known
pub mod Laws
pub mod Refusals
pub mod Stopping
pub mod Talk
pub mod Turns
pub mod Writing
