-- The laws of lines for the crates above.
pub mod Numbers
pub mod Laws
