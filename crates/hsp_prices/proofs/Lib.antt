pub mod Bounding
pub mod Catching
pub mod Keeping
pub mod Spread
pub mod KindPlans
pub mod Counting
pub mod Placing
pub mod ByTables
pub mod Tabling
pub mod Lists
pub mod Once
mod TableSums
mod Sites
pub mod ServerArcs
pub mod LeastPay
pub mod ClassKinds
pub mod GivenClasses
pub mod ByRow
mod Flows
mod Served
mod Networks
mod ClassPlan
mod Paid
mod Shown
mod Short
pub mod Bounds
pub mod Beside
pub mod Parted
pub mod RowLeast
pub mod SentFlows
pub mod LeastFlows
pub mod RowPairs
pub mod GroupRows
pub mod GroupSums
pub mod MetFlows
pub mod PlanSums
pub mod PlacedRows
pub mod GroupsBest
pub mod ShortSums
pub mod ShortArcs
pub mod ShortRows
pub mod ShortShown
