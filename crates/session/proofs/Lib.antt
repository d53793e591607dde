pub mod Comments
pub mod Naming
pub mod Telling
pub mod Sheets
