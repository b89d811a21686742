pub mod Templates
pub mod Structures
pub mod Files
pub mod Verdicts
pub mod Rows
