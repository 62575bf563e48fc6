pub mod Lines
pub mod Run
pub mod Histories
