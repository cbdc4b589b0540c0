pub mod Ends
pub mod Places
pub mod Walk
pub mod Rests
pub mod Looks
pub mod Parts
pub mod Splitting
pub mod Accepted
