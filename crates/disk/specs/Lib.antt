pub mod Meaning
pub mod Origin
pub mod Strips
pub mod Surveys
