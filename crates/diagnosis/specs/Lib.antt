pub mod Readable
pub mod Words
