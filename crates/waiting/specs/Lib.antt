-- The waiting list. Plans is the code's way to an edit; nobody has to believe it.
pub mod Waiting
pub mod Plans
