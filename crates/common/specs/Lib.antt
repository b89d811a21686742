pub mod Tags
pub mod Contents
pub mod Lines
