-- Runs: that every run ends, how long its output is, and what a lent buffer holds of it.
pub mod Ends
pub mod Whole
pub mod Output
