pub mod Holding
pub mod Saying
pub mod Changing
