pub mod Facts
pub mod Donations
pub mod Assignments
pub mod Releases
pub mod Serving
pub mod Blocks
