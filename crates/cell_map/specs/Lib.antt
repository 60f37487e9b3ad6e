pub mod Interleaver
pub mod Address
pub mod CellMap
pub mod Reading
pub mod Stretches
pub mod Laws
-- inner: no public clause cites these
pub mod Slices
pub mod Runs
-- of the crates below, for those who read this one
pub use Rattle.plp_config.specs.Capacity
pub use Rattle.plp_config.specs.Plps
pub use Rattle.scheduler.specs.Shape
