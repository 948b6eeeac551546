-- Runs: everything that the run program prints, and what the contracts cite.
pub mod Runs
pub mod Promises
