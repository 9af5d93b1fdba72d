mod Appending
mod ArrivedLemmas
pub mod AtHandLemmas
mod BlankLemmas
mod BufferLemmas
mod FieldLemmas
mod NumberLemmas
mod ParseLemmas
mod PathLemmas
mod PlainLemmas
mod ReadLemmas
mod UniqueHeads
