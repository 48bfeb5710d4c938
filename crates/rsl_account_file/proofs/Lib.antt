pub mod Values
pub mod Files
pub mod Parts
pub mod Names
pub mod Consumed
pub mod ReplyLists
pub mod Staying
