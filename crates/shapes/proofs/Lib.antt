-- How the shapes follow the grammar.
pub mod Tails
-- What the shapes' own proofs use.
pub mod Spellings
pub mod Bounds
pub mod Begun
pub mod Endings
