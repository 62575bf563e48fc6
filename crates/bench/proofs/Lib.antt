pub mod Sound
pub mod Rests
pub mod Lends
pub mod Gives
pub mod Ticks
pub mod Admits
pub mod Lists
