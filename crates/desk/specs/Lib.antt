pub mod Calls
pub mod Desk
pub mod Texts
pub mod Reports
pub mod Views
