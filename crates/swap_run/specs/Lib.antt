pub mod Laws
pub mod SwapRun
-- inner: no public clause cites these
pub mod AsMachine
pub mod Shown
pub mod Steps
