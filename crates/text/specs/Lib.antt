pub mod Lines
pub mod Words
pub mod Shown
