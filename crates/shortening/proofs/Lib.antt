pub mod Records
pub mod Printing
pub mod Keeping
pub mod Passes
pub mod Answers
