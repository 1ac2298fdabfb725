pub mod Lines
pub mod Picture
