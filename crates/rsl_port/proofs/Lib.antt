pub mod Callers
pub mod Reading
pub mod Showing
