pub mod Added
pub mod Cuts
pub mod Places
pub mod Wholes
pub mod Only
pub mod FaultOrder
pub mod Sorted
pub mod Digits
mod PlainLemmas
