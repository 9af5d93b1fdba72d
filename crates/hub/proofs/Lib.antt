mod Ahead
mod Chains
mod Fed
mod FedEnds
mod FedRuns
mod HubLemmas
mod LeftFed
mod Played
pub mod RowsLemmas
mod Settled
mod Since
mod Turns
