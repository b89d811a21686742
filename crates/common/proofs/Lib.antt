pub mod Sets
pub mod Members
mod Holding
