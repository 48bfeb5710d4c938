pub mod Fault
pub mod Jobs
pub mod Step
pub mod Answered
pub mod Sockets
