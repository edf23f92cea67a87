-- A term of each statement of specs/Promises.antt; `Kept` has them all.
pub mod Reading
pub mod Grammar
pub mod Budgets
pub mod Exactly
pub mod Left
pub mod Alone
pub mod AloneBudgets
pub mod OneAnswer
pub mod Told
pub mod Flags
pub mod Gated
pub mod Memos
pub mod Digits
pub mod Namespaces
pub mod References
pub mod Kept
