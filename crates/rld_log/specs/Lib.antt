pub mod Frames
pub mod Laws
pub mod Log
pub mod Memory
pub mod MemorySeen
pub mod Pacing
pub mod Passing
pub mod Recording
