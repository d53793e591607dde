pub mod Governors
