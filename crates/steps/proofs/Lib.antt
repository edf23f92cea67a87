-- The rules by which a reader's proof follows its production.
pub mod Laws
pub mod Leads
pub mod More
-- What the steps' own proofs use.
pub mod Says
pub mod Choices
pub mod Memos
pub mod Cells
