pub mod FrameLemmas
mod RecordLemmas
mod RecoverLemmas
mod CountedLemmas
pub mod FitLemmas
mod StandLemmas
mod LossLemmas
pub mod AloneLemmas
