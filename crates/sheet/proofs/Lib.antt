mod Digits
mod Listing
pub mod CaseRows
pub mod Places
pub mod Counting
pub mod Writing
pub mod Rows
pub mod Walking
