pub mod Groups
pub mod Inputs
pub mod Places
pub mod Sharing
pub mod Shared
pub mod Split
pub mod StandsFor
pub mod Laws
-- of the crates below, for those who read this one
pub use Rattle.ts_packet.specs.Null
pub use Rattle.plp_config.specs.Plps
pub use Rattle.null_delete.specs.Deletion
