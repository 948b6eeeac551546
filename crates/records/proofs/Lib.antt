-- The laws of the records; those for the crates above are in Round.
pub mod Bytes
pub mod Contexts
pub mod Table
pub mod Parts
pub mod Round
