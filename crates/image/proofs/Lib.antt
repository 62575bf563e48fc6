pub mod Sums
pub mod Records
pub mod Images
pub mod Beds
mod Parts
