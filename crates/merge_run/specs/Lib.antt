pub mod Counted
pub mod Laws
pub mod MergeRun
-- inner: no public clause cites these
pub mod AsMachine
pub mod Sending
pub mod Shown
pub mod Steps
pub mod Taking
