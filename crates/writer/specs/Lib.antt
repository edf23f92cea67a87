pub mod Written
pub mod Source
