mod Cuts
pub mod Decimals
mod Names
