pub mod InTurn
pub mod TalkEnds
mod TalkFails
pub mod SpelledFronts
pub mod AnswersShown
mod Lines
mod PriceTurns
mod FrontWords
mod Rooms
mod PricesShown
mod Always
