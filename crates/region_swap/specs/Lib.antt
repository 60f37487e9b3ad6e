pub mod Swapped
pub mod Held
pub mod StandsFor
pub mod Laws
-- inner: no public clause cites these
pub mod RegionFed
pub mod Telling
pub mod Making
pub mod Left
pub mod Inside
-- of the crates below, for those who read this one
pub use Rattle.gateway_core.specs.InputSoFar
pub use Rattle.mode_adapt.specs.Blocks
pub use Rattle.record_laws.specs.Frames
pub use Rattle.stream_laws.specs.Remade
