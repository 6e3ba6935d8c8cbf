pub mod Records
pub mod Header
pub mod Row
pub mod Plain
pub mod Places
pub mod Scan
pub mod Walks
pub mod Found
