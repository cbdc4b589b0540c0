pub mod Within
pub mod Bounds
pub mod Costs
pub mod Bests
