pub mod Known
pub mod Vectors
