pub mod Counts
pub mod Draws
pub mod Losses
pub mod Network
pub mod Stops
pub mod Trial
pub mod TrialInput
-- inner: no public clause cites these
pub mod Made
pub mod Stages
