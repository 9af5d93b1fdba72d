pub mod ClearLemmas
mod DigitLemmas
mod FlatLemmas
mod FormLemmas
mod KeyLemmas
mod LineLemmas
mod ListLemmas
mod Members
mod Phrases
mod PlainForms
pub mod RefusalLemmas
mod ScanLemmas
mod TailLemmas
mod TelNames
pub mod WholeRefusals
pub mod PlainBytes
