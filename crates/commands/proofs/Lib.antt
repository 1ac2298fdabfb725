pub mod Lines
pub mod Replay
pub mod Replaying
pub mod Telling
