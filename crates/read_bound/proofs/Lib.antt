-- A read is heard within four deliveries: proofs. The theorems are in Heard, and Four has the run that meets the number.
pub mod Positions
pub mod Members
pub mod Stages
pub mod Own
pub mod Heard
pub mod Four
