pub mod Attribute
pub mod Dictionary
pub mod Naming
pub mod Reading
pub mod Value
pub mod Words
