pub mod Laws
pub mod Layout
pub mod T2miPacket
pub mod Reading
pub mod Spell
-- inner: no public clause cites these
pub mod Writing
-- of the crates below, for those who read this one
pub use Rattle.bit_slice.specs.Crc
pub use Rattle.bit_slice.specs.Sink
pub use Rattle.terms.specs.Bits
