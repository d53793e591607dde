pub mod Own
pub mod Told
