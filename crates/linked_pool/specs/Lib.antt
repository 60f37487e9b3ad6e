pub mod Pool
pub mod Fits
pub mod Laws
-- inner: no public clause cites these
pub mod Chains
pub mod Blocks
