pub mod Names
pub mod Newest
pub mod Older
