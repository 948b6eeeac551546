pub mod Shortening
pub mod Promises
