mod FirstWord
mod OptionLemmas
