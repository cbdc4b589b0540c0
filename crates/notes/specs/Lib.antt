pub mod Break
pub mod Walk
pub mod Split
