pub mod Start
pub mod Types
pub mod Begins
