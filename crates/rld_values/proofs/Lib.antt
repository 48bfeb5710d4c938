pub mod Callers
mod Fronts
pub mod Pieces
mod ReadingBack
