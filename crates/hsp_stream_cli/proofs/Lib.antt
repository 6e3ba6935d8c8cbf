pub mod Lent
mod FaultLists
mod FailedReads
