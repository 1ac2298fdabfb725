pub mod Words
pub mod Numbers
pub mod Requests
pub mod Plans
pub mod Links
