pub mod Drawn
pub mod Reading
