pub mod SubjectKeys
pub mod DigitLemmas
pub mod PairLemmas
pub mod SpidLemmas
pub mod SubjectOrder
pub mod Small
