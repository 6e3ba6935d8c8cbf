pub mod Planning
pub mod Ordered
pub mod Columns
pub mod Lists
pub mod Nodes
