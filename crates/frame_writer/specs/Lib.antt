pub mod FramePackets
pub mod FirstPacket
pub mod Builds
pub mod Whole
pub mod Carried
pub mod Flowing
pub mod Units
pub mod Bodies
pub mod Left
pub mod Signalling
-- of the crates below, for those who read this one
pub use Rattle.terms.specs.Bits
pub use Rattle.plp_config.specs.Emission
pub use Rattle.t2mi_packet.specs.T2miPacket
pub use Rattle.t2mi_stream.specs.Complete
pub use Rattle.t2mi_stream.specs.Pipe
