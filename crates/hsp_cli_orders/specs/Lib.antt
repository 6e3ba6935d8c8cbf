pub mod Words
pub mod Orders
pub mod StreamOrders
pub mod Commands
pub mod Tables
