-- Questions, and versions found by a column.
pub mod Alone
pub mod Columns
pub mod IdsFound
pub mod Questions
pub mod VersionShown
pub mod Unmoved
