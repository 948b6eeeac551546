-- The laws of the waiting list, and what walks over it share.
pub mod Laws
pub mod Plans
