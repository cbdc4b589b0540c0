pub mod Closing
pub mod Lending
pub mod Writing
pub mod Entering
