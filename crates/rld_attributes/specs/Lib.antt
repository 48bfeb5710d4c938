pub mod Accept
pub mod Carried
pub mod Listed
pub mod Value
pub mod Written
