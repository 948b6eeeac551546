-- The laws of the contexts for the crates above.
pub mod Places
pub mod Rows
pub mod Found
