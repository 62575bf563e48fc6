pub mod Lines
pub mod Cues
pub mod Ticks
pub mod Plain
pub mod Running
pub mod Jobs
pub mod Histories
