pub mod Lines
pub mod StandardError
