pub mod Falls
pub mod ByType
pub mod ByName
pub mod Ended
