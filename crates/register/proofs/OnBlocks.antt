-- Donation, assignment and release of a block.
pub mod Assigned
pub mod BlockAnswered
pub mod BlockCalled
pub mod BlockCommands
pub mod BlockFacts
pub mod BlockNumbers
pub mod BlockRow
pub mod Donated
pub mod ForceCounted
pub mod Planned
pub mod Released
