pub mod Answering
pub mod History
pub mod Lasting
pub mod Leaving
pub mod Obeying
pub mod Openings
pub mod Planning
pub mod Within
