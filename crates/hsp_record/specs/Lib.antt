pub mod Fields
pub mod Site
pub mod Values
pub mod Request
pub mod Reading
