pub mod Kinds
pub mod Form
