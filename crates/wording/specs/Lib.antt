pub mod Sentences
pub mod Beside
pub mod Explained
pub mod Reasons
pub mod Lines
