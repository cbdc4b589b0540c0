pub mod PageSoFar
pub mod Breaks
pub mod Standing
pub mod Low
