pub mod Beginning
pub mod Callers
pub mod Journaling
pub mod Moving
pub mod Numbers
pub mod Rowing
pub mod GivenBooks
