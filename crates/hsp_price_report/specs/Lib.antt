pub mod ValidPass
pub mod LoadReport
pub mod RegionReport
pub mod RegionTotals
pub mod Kinds
