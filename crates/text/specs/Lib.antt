pub mod Characters
pub mod Digits
pub mod Dates
pub mod Names
