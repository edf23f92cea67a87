pub mod Bytes
pub mod Cursor
pub mod Number
pub mod Cases
pub mod Name
pub mod Limits
