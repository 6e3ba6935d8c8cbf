pub mod Columns
pub mod Conditions
pub mod Numbered
pub mod LoadReport
pub mod ShortageReport
pub mod RegionReport
pub mod Lent
pub mod RegionTotals
