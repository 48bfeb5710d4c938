pub mod Bare
pub mod Named
pub mod Utf8
