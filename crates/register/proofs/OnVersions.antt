-- Creates, and commands on a version.
pub mod Commanded
pub mod Created
pub mod FactsRead
pub mod FirstAnswered
pub mod FirstCreate
pub mod OnVersion
pub mod RowVersion
pub mod SecondAnswered
pub mod SecondCreate
