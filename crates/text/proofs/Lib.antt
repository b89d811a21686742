pub mod Weights
mod Turns
mod Values
mod Pairs
