pub mod BlockLemmas
pub mod LeftLemmas
pub mod RegionLemmas
pub mod SwapLemmas
pub mod SwappedLemmas
pub mod TellLemmas
