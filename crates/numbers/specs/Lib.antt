pub mod Digits
pub mod Subjects
pub mod Routings
pub mod Texts
pub mod Spids
pub mod Abstraction
