pub mod Key
pub mod Value
pub mod Server
pub mod Place
pub mod Paths
pub mod Trust
pub mod Passed
pub mod Warning
