pub mod Words
pub mod Cuts
pub mod Forms
pub mod RoundTrip
