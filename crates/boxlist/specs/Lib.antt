pub mod Faults
pub mod Lines
pub mod Marks
pub mod Parts
pub mod Texts
pub mod Order
pub mod Reading
