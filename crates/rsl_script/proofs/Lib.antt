pub mod Numbers
pub mod RestAfter
pub mod Printed
pub mod Mapped
pub mod Joined
pub mod Requests
pub mod Taken
