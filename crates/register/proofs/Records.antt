-- The records after a request, and the rows that match them.
pub mod MadeSent
pub mod Pooled
pub mod Sent
pub mod Stepped
pub mod Touched
