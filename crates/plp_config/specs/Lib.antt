pub mod Tables
pub mod Plps
pub mod Places
pub mod InterleavingFrames
pub mod FirstFailure
pub mod SlotTime
pub mod SlotTimes
pub mod Rules
pub mod Capacity
pub mod Ranges
pub mod Emission
pub mod RunLength
pub mod Laws
-- inner: no public clause cites these
pub mod RuleTests
pub mod CapacityTests
