-- What demand 3 speaks of.
pub mod Run
