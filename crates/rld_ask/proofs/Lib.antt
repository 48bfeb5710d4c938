pub mod Gathering
pub mod Fronts
pub mod Requests
pub mod Shown
pub mod Judging
