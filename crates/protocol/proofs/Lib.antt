-- What holds of the rules: Effects is what a step can do to each part, from which the others follow, Refusals is what a step can answer and what a refusal leaves, Points is document 01's P1 to P11, JoinPoints document 02's Req 04,
-- Finished what a step that finishes an operation delivers, Freshness what document 02's Req 01 says of a reply, Handed which steps leave the switch as it is.
pub mod Effects
pub mod Refusals
pub mod Variants
pub mod Points
pub mod JoinPoints
pub mod Fits
pub mod Finished
pub mod Freshness
pub mod Handed
