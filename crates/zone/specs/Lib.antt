pub mod Layouts
pub mod Contents
pub mod Fields
pub mod Lines
pub mod Changes
