pub mod FrameLemmas
pub mod ReadLemmas
pub mod ScrambleLemmas
pub mod WriteLemmas
pub mod CountLemmas
