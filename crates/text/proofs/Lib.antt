pub mod Cut
pub mod Seq
pub mod Stores
pub mod Digits
pub mod Letters
pub mod Room
