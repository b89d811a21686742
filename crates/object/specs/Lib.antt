pub mod Objects
pub mod Trees
pub mod Reading
pub mod Readers
