pub mod Fit
pub mod Characters
