pub mod Batches
pub mod Pages
