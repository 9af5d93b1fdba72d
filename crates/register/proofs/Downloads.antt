-- A carrier's queue, and its acknowledgements.
pub mod Acknowledged
pub mod Answering
pub mod Awaited
pub mod Copied
pub mod Fetched
pub mod Queued
pub mod Receipts
pub mod Marked
pub mod Shared
