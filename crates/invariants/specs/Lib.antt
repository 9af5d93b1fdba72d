pub mod Sound
pub mod Flaws
pub mod Seen
pub mod Words
