pub mod Splitting
pub mod Limiting
pub mod Pairing
pub mod Shelves
