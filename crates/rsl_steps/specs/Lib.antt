pub mod Books
pub mod Laws
pub mod Moves
pub mod Own
pub mod Ran
pub mod Run
pub mod Taking
