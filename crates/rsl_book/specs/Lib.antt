pub mod RuledBook
pub mod Seen
pub mod Named
pub mod Fingerprint
pub mod BookSeen
pub mod Restored
