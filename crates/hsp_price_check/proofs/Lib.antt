pub mod Capping
mod LeastPays
mod ClassPlaces
pub mod ClassSums
pub mod ServiceHosts
mod SetCapacity
pub mod Positions
mod OneRow
mod SumSteps
mod PassSteps
pub mod PricePays
mod PlanRows
mod InOrder
mod Judging
mod SmallAmounts
mod JudgedClasses
mod SetRows
pub mod Starting
pub mod RegionPlaces
mod RegionSteps
mod Judged
pub mod KindCounts
pub mod SeenMaps
pub mod FirstOfKinds
