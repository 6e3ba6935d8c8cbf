pub mod Claim
pub mod Certificate
pub mod Text
pub mod Reading
pub mod Lines
pub mod Drafts
