pub mod Followed
pub mod Quotients
pub mod Ranges
pub mod Tests
