pub mod KeptRows
pub mod Lookups
pub mod SeenNames
pub mod TurnLaws
pub mod TableLaws
pub mod TableRows
pub mod Documents
pub mod SettingsLists
pub mod TableReading
pub mod TableKinds
pub mod KeyedReading
mod FaultyRows
mod FaultyLaws
