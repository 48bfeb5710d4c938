pub mod Common
pub mod File
pub mod FileRead
pub mod Read
