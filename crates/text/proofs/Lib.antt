pub mod Inputs
pub mod WordSplits
