pub mod Calls
pub mod Labels
pub mod Prints
pub mod Reports
