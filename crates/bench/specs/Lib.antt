pub mod Sound
pub mod Quiet
pub mod Limits
pub mod Orders
pub mod Admits
pub mod Model
pub mod Ticks
pub mod Performing
