pub mod RowFields
pub mod Each
pub mod Bodies
pub mod FrontShares
pub mod LogRows
pub mod LogReading
mod OneField
pub mod Entries
