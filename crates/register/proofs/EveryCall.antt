-- Lemmas for every call: settling its subjects first, and its contract at each exit.
pub mod Before
pub mod Composed
pub mod Deciding
pub mod Failed
pub mod HeldSets
pub mod Left
pub mod LookedUp
pub mod Opened
pub mod Orderly
pub mod Settled
pub mod Unfailing
