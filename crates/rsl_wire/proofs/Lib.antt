pub mod AttributeLaws
pub mod BeforeLaws
pub mod NewPacketLaws
pub mod PacketLaws
pub mod ReadLaws
