pub mod Below
pub mod Trees
pub mod Compare
pub mod Union
pub mod Decoded
pub mod Own
pub mod Past
