pub mod Counts
pub mod Purchases
pub mod Moves
pub mod Portions
pub mod Nearest
