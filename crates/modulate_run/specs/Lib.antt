pub mod AsMachine
pub mod Counted
pub mod GivenRecord
pub mod Laws
pub mod ModulateRun
