pub mod Shape
pub mod Laws
-- inner: no public clause cites these
pub mod Steps
-- of the crates below, for those who read this one
pub use Rattle.plp_config.specs.Capacity
pub use Rattle.plp_config.specs.Plps
