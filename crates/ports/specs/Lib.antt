pub mod Calls
pub mod Counts
pub mod Desk
pub mod Faults
pub mod HostDesk
pub mod Laws
pub mod MemoryDesk
pub mod Notes
pub mod Script
-- inner: no public clause cites these
pub mod CallsCode
pub mod StateCode
pub mod Stored
