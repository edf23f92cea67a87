-- The parts that open no other, and lists.
pub mod Parts
pub mod Lists
