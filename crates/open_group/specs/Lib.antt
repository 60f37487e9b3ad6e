pub mod HoldsStamps
pub mod Parts
pub mod HoldsL1
pub mod Sent
pub mod HoldsBlocks
pub mod HoldsPast
pub mod Holds
pub mod FrameBytes
pub mod Written
pub mod Shown
pub mod Signals
pub mod Laws
pub mod RecordBytes
pub mod Front
pub mod Steps
pub mod Writes
pub mod WriterLaws
-- inner: no public clause cites these
pub mod Giving
pub mod Fitting
pub mod Sizes
-- of the crates below, for those who read this one
pub use Rattle.frame_groups.specs.Carried
pub use Rattle.frame_groups.specs.Tests
pub use Rattle.frame_groups.specs.Tally
pub use Rattle.frame_groups.specs.Groups
