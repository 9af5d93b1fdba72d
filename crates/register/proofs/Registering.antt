-- Carriers, routing numbers, codes, windows and the clock.
pub mod ClockMoved
pub mod Joined
pub mod JoinedWaits
pub mod Registered
pub mod Registry
pub mod SetsPut
pub mod Starting
