pub mod Columns
pub mod Explanations
pub mod Findings
pub mod Headings
pub mod Rows
pub mod Shown
pub mod Tables
pub mod Texts
