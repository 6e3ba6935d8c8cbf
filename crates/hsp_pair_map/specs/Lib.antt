pub mod Pairs
pub mod Hashing
pub mod Chains
pub mod Held
pub mod Ordered
