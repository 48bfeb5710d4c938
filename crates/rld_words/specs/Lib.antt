pub mod Arguments
pub mod Flags
pub mod Given
pub mod Waits
