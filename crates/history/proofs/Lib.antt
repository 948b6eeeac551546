-- How an order that explains a run grows with the run, for the crates above.
pub mod Lists
pub mod Tests
pub mod Entries
pub mod Growth
pub mod Readable
pub mod Place
pub mod Claim
pub mod Stale
