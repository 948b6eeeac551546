-- Stamps: document 01's word for the sequence number of a write.
pub mod Stamps
