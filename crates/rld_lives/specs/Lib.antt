pub mod Choosing
pub mod Within
pub mod Leaving
pub mod Life
pub mod Lives
pub mod Planned
