pub mod Addresses
pub mod Bits
pub mod Longest
