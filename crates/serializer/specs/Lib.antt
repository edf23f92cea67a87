pub mod Flags
pub mod Serializer
pub mod Lists
pub mod Pieces
