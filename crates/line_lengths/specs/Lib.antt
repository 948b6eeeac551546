-- The lines that the run program prints.
pub mod Lines
