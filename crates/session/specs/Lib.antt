pub mod Lines
pub mod LimitWords
pub mod Faults
pub mod Inputs
pub mod Sheets
