pub mod Minimal
pub mod Shortened
