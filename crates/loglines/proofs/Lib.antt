pub mod Memory
pub mod Numbers
