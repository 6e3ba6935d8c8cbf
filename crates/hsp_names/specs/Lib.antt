pub mod Handle
pub mod Lent
