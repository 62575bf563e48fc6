pub mod Took
pub mod Lines
pub mod Checks
pub mod Laws
