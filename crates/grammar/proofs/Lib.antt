-- The theorems on all programs of the language; what this grammar pays, and that what it leaves is well formed.
pub mod Ordered
pub mod Demands
pub mod First
pub mod Leaves
pub mod Funded
pub mod Paid
pub mod Table
pub mod Bounds
pub mod Rows
pub mod Calm
pub mod Sound
pub mod Formed
pub mod Memos
pub mod Moves
pub mod Turns
pub mod Honest
