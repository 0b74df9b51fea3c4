-- Document 01 as definitions, in its order.
pub mod Bounded
pub mod Order
pub mod Table
pub mod Reading
pub mod Accepted
pub mod Preemption
pub mod Above
pub mod Locks
pub mod Races
pub mod Priorities
pub mod Counting
pub mod Machine
pub mod Runs
pub mod Calls
pub mod Quoted
pub mod Listing
