pub mod PlacePrinting
pub mod PlaceTalks
mod PlacesPrinted
pub mod Listing
mod Looking
mod Texts
mod InterfaceSpelled
mod InterfaceTurns
mod InterfaceWriting
