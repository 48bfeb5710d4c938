pub mod Seen
mod Seconds
