pub mod Dispatching
pub mod Printing
pub mod Showing
mod Reporting
pub mod ByHash
pub mod NoLog
pub mod Ending
pub mod ShownLog
pub mod ShownFronts
pub mod Always
pub mod Pricing
