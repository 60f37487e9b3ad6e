pub mod Crc
pub mod Laws
pub mod Prbs
pub mod PrbsBlocks
pub mod Sink
pub mod Source
-- inner: no public clause cites these
pub mod Filling
pub mod Register
pub mod Window
-- of the crates below, for those who read this one
pub use Rattle.terms.specs.Bits
