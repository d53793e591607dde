pub mod Lawful
pub mod Tables
