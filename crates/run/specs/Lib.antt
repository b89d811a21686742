pub mod Numbers
pub mod Calls
pub mod Histories
pub mod Holding
pub mod Steps
pub mod Promise
