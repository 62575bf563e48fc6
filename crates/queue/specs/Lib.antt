pub mod Order
pub mod Heaps
pub mod Held
pub mod Keys
pub mod Requests
pub mod KeysLemmas
pub mod ReadRequestTotalLemmas
