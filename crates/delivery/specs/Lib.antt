pub mod Refused
pub mod Broadcasts
pub mod Queues
pub mod Mirrors
