pub mod Numbers
pub mod Reads
pub mod Whole
pub mod Outcomes
