pub mod Words
pub mod Tokens
pub mod Forms
pub mod Reading
pub mod Text
