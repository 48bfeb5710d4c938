pub mod Served
pub mod Fault
pub mod Output
pub mod Plan
