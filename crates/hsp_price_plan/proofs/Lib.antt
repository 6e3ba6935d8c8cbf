pub mod HeldRows
pub mod RowRanges
mod PastLimits
mod PlanShown
pub mod ShortShown
mod Halves
mod ArcEntries
mod KeptArcs
mod LeastTests
mod RowKeeping
mod RowPlaces
mod RowPushing
mod Settling
mod Passing
pub mod StillRows
pub mod SameShapes
pub mod LooseRows
mod Joining
mod Finding
pub mod OwnArcs
mod ColumnSteps
pub mod GroupNetwork
mod SentFlows
mod ClassSteps
mod ClassEntries
mod ClassTurns
mod ClassesShown
mod FlowCosts
mod Pressing
mod PressedPrices
mod LoweredPrices
pub mod PlanParts
mod FlowTotals
mod ReachedServers
mod CaughtDemand
mod ShortageParts
pub mod Kept
