pub mod Layers
pub mod Links
pub mod Trims
