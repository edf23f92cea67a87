pub mod Splits
pub mod Steps
pub mod Runs
