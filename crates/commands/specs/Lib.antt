pub mod Lines
pub mod Plans
pub mod Replay
pub mod Steps
