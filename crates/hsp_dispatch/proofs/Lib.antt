pub mod Lists
mod InTurn
mod Running
mod Counting
mod Desks
pub mod Spreads
pub mod Shares
pub mod Resting
pub mod SharedOut
pub mod Taking
pub mod Dispatching
pub mod ByHash
pub mod Parts
pub mod Standings
pub mod FrontsHeld
pub mod FrontCounts
pub mod FrontLaws
pub mod WholeRows
pub mod OverCalls
