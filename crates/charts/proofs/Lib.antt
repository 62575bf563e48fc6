pub mod Entries
pub mod Logs
pub mod Bars
pub mod Marked
pub mod Covered
pub mod Back
pub mod Whole
