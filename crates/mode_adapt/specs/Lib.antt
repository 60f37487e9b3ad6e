pub mod UserPackets
pub mod Queue
pub mod Matype
pub mod Blocks
pub mod Events
pub mod Settings
pub mod StandsFor
pub mod Place
pub mod Calls
pub mod Laws
-- inner: no public clause cites these
pub mod Waiting
pub mod Pieces
pub mod Steps
-- of the crates below, for those who read this one
pub use Rattle.ts_packet.specs.Null
pub use Rattle.terms.specs.Bits
pub use Rattle.bb_frame.specs.BasebandFrame
pub use Rattle.plp_config.specs.Capacity
pub use Rattle.plp_config.specs.Plps
pub use Rattle.plp_config.specs.SlotTime
pub use Rattle.plp_config.specs.SlotTimes
pub use Rattle.null_delete.specs.Deletion
pub use Rattle.linked_pool.specs.Pool
pub use Rattle.linked_pool.specs.Fits
