pub mod CommandLine
pub mod Usage
