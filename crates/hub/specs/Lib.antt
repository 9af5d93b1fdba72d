pub mod Connections
pub mod Crashes
pub mod Feeding
pub mod Hub
pub mod Rows
pub mod Schedules
pub mod Waits
