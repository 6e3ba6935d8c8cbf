pub mod Digests
pub mod Option
pub mod Place
