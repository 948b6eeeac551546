-- The replicas: the lent store, the chain's shape, and what the replicas do.
pub mod Replicas
pub mod Links
pub mod Visible
