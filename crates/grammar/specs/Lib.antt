pub mod Program
pub mod Words
pub mod Grammar
pub mod Counts
pub mod Table
pub mod Worked
