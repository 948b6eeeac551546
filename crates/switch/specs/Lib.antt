-- The switch and its dirty set. Numbers says where each number lies, DirtySet what is done with them, Found what a search of the slots finds, Values what a switch by value holds.
pub mod Numbers
pub mod DirtySet
pub mod Found
pub mod Values
