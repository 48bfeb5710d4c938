pub mod Turning
pub mod Requests
pub mod Noting
pub mod Asking
