pub mod Beside
pub mod Decided
pub mod Found
