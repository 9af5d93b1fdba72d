pub mod Crashes
pub mod Executing
pub mod ReplyBounds
pub mod Plain
pub mod Run
pub mod Serving
pub mod Step
pub mod Ticks
