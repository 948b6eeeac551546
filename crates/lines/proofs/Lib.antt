-- What the functions that put a line rest on.
pub mod Digits
pub mod Text
