pub mod Places
pub mod Placed
pub mod Woven
pub mod Weaves
pub mod Laws
pub mod Marked
pub mod Holds
-- inner: no public clause cites these
pub mod Made
pub mod Slots
-- of the crates below, for those who read this one
pub use Rattle.open_group.specs.Signals
