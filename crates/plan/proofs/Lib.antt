mod Complete
pub mod Counting
mod Factoring
pub mod Inside
mod Putting
mod Telling
