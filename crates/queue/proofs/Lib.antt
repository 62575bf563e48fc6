pub mod Order
pub mod Heaps
pub mod Held
mod Drained
mod Sorted
