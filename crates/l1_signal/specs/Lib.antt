pub mod Fields
pub mod CrcField
pub mod Lengths
pub mod L1Pre
pub mod L1Configurable
pub mod L1Dynamic
pub mod L1Of
pub mod Laws
-- inner: no public clause cites these
pub mod Places
pub mod Numbers
pub mod Comparing
-- of the crates below, for those who read this one
pub use Rattle.bit_slice.specs.Crc
pub use Rattle.bit_slice.specs.Sink
pub use Rattle.terms.specs.Bits
pub use Rattle.plp_config.specs.Capacity
pub use Rattle.plp_config.specs.Plps
pub use Rattle.scheduler.specs.Shape
