pub mod Shown
pub mod Socket
pub mod Told
