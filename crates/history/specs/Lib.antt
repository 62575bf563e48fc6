pub mod Bench
pub mod Calls
pub mod Told
pub mod Laws
pub mod Requests
pub mod Trials
