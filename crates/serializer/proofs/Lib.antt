pub mod Nodes
pub mod Chain
pub mod Walks
pub mod Spelled
