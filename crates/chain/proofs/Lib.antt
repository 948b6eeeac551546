-- The laws of the chain for the crates above.
pub mod Members
pub mod Numbers
pub mod Found
