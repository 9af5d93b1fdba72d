mod Taken
mod Exists
mod Exported
mod Asked
mod Waited
mod Carried
mod Copied
mod Sided
mod FoundIn
mod Compared
pub mod FieldLemmas
mod Filed
pub mod Names
mod Passing
mod Ranging
mod Runs
mod Sending
mod Until
pub mod Wishes
mod Examples
mod AuditExamples
mod Noted
mod Mistaken
mod CopyMistaken
