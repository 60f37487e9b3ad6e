pub mod BasebandFrame
pub mod Scrambled
pub mod Laws
-- inner: no public clause cites these
pub mod Reading
-- of the crates below, for those who read this one
pub use Rattle.bit_slice.specs.Crc
pub use Rattle.bit_slice.specs.Prbs
pub use Rattle.bit_slice.specs.PrbsBlocks
pub use Rattle.bit_slice.specs.Sink
pub use Rattle.terms.specs.Bits
