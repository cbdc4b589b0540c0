pub mod Cost
pub mod Sums
pub mod Least
