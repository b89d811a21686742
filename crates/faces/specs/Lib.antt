pub mod Rows
pub mod Groups
pub mod Rising
pub mod Faces
