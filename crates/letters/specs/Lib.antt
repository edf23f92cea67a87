pub mod StorageClass
pub mod FuncClass
pub mod Classes
