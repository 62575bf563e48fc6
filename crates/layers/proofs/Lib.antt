pub mod Entries
pub mod Layers
pub mod Plans
pub mod Retries
