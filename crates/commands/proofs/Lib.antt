mod ShownWords
pub mod Listed
pub mod NameSteps
pub mod NoneSaid
