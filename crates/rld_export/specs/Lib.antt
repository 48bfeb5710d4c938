pub mod Moments
pub mod Saved
pub mod Sessions
pub mod Text
