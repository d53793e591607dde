pub mod Refused
pub mod SetOut
pub mod Shown
