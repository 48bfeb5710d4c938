pub mod Attributes
pub mod NewPacket
pub mod DraftSeen
pub mod OctetsSeen
pub mod Packet
pub mod Seen
