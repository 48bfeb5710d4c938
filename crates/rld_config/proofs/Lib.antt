pub mod Names
pub mod PassedNames
pub mod Tables
pub mod Taken
pub mod Parts
pub mod Shadowed
pub mod Told
