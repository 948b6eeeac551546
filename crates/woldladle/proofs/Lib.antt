-- That a refusal changes nothing; that no operation has number 0; that the exported lines are those of the run program.
pub mod Refused
pub mod Opens
pub mod Printed
