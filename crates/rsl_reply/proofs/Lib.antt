pub mod Numbers
pub mod RestAfter
pub mod Splits
