pub mod Bodies
pub mod Fields
pub mod Letters
pub mod Lines
pub mod Numbers
pub mod Passes
pub mod Sequences
pub mod Contents
