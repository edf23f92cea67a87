pub mod Emit
pub mod Spaces
pub mod Words
pub mod Letters
pub mod Decimal
pub mod Buffer
