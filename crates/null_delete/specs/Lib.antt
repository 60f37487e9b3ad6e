pub mod Deletion
pub mod StandsFor
pub mod Laws
-- of the crates below, for those who read this one
pub use Rattle.ts_packet.specs.Null
