-- The laws of the switch for the crates above.
pub mod FirstSlot
pub mod Laws
pub mod Lookup
pub mod Counted
pub mod Cover
