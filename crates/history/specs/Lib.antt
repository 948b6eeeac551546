-- What happened in a run, and when one order of its operations explains it. Nothing here knows a machine.
pub mod History
pub mod Linearizability
