-- Turns: what the run program prints for each record, and what the contracts cite.
pub mod Turns
pub mod Promises
