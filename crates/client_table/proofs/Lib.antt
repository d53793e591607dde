pub mod Chunks
pub mod Whole
