pub mod CutLemmas
pub mod DrawLemmas
pub mod LossLemmas
pub mod StageLemmas
pub mod TrialLemmas
