pub mod Counted
pub mod MendRun
-- inner: no public clause cites these
pub mod AsMachine
pub mod Row
pub mod Shown
