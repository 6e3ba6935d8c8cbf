pub mod Instance
pub mod Building
pub mod Parts
pub mod RegionCosts
pub mod RowArcs
