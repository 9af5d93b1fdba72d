pub mod Counts
pub mod Carriers
pub mod Life
pub mod Figures
pub mod Page
