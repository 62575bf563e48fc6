pub mod Dues
pub mod Lists
pub mod Laws
pub mod Checks
pub mod DuesLemmas
