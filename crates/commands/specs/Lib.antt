pub mod Words
pub mod Names
pub mod Mistakes
pub mod Said
pub mod Shown
