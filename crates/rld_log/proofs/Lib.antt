pub mod Blocks
pub mod Callers
pub mod Losing
pub mod Readings
pub mod Recordings
pub mod Steps
