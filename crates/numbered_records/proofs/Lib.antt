-- What the writers answer, in numbers.
pub mod Refusals
