pub mod Laws
pub mod Numbers
pub mod Names
pub mod Fits
