pub mod Chaining
pub mod Finding
pub mod Adding
pub mod Ordering
