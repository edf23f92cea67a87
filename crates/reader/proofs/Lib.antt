-- What a whole reading answers and leaves.
pub mod Answers
