pub mod Rising
pub mod InUse
pub mod Numbered
pub mod Planned
pub mod Served
pub mod BlockRefused
