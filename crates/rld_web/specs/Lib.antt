pub mod Answer
pub mod Fresh
pub mod Path
pub mod Place
pub mod Wanted
