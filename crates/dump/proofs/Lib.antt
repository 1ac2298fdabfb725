pub mod Spelled
mod Lawful
mod PixelRecords
mod Runs
mod Parses
mod Held
mod Parsed
mod Limits
mod Rising
mod Exact
