pub mod Lengths
pub mod Radii
pub mod Ranges
pub mod Runs
pub mod Tests
