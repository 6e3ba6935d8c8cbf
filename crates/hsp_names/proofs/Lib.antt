pub mod Splitting
mod Reading
