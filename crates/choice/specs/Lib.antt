pub mod Chosen
pub mod Governors
pub mod InForce
