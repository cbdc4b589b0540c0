pub mod Galley
