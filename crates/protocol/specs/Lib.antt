-- The step machine of document 01: what must be believed of it. Answers numbers the refusals, Roles tells what a step is to the clients and to the waiting list, Messages gives the kinds of packet, Delivery is 'What
-- delivery does', Contexts the same for reads of whole contexts, Steps is every other step and the one function that decides them all.
pub mod Answers
pub mod Starts
pub mod Roles
pub mod Messages
pub mod Reads
pub mod Decisions
pub mod Contexts
pub mod Delivery
pub mod Steps
