pub mod Noting
mod Joined
mod Joining
mod Showing
