pub mod Address
pub mod Networks
pub mod Prefix
