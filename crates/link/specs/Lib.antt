pub mod Calls
pub mod Echo
pub mod Examples
pub mod Model
pub mod Trim
pub mod TrimLaws
pub mod WordLaws
