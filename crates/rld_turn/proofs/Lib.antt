pub mod Candidates
pub mod Deciding
pub mod Entering
pub mod Receiving
pub mod Replying
pub mod Telling
pub mod StatusWritten
