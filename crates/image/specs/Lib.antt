pub mod Numbers
pub mod Images
pub mod Checks
pub mod Counts
