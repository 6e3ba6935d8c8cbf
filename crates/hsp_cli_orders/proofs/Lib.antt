mod Matching
pub mod Shapes
