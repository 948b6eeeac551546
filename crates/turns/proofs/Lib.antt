-- Turns one after the other, and what walks over runs share.
pub mod Standings
pub mod Filling
