pub mod MendLemmas
pub mod ChooseLemmas
pub mod MakeLemmas
pub mod FrameLemmas
pub mod PickLemmas
pub mod RowLemmas
pub mod HeadLemmas
