mod Follows
mod Going
pub mod Left
mod NextLemmas
mod OnceLemmas
mod PlainCalls
mod PlainLemmas
pub mod Reachable
mod Risen
mod RunLemmas
pub mod StepLemmas
mod StorageLemmas
mod StorageRuns
mod UriLemmas
mod Withheld
