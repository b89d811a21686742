pub mod Tables
pub mod Sheets
pub mod Walks
