-- The rule of the table of remainders.
pub mod Entries
pub mod Table
