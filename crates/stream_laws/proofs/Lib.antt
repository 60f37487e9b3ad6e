pub mod PassedLemmas
pub mod SizeLemmas
pub mod FormedSignalLemmas
pub mod FormedLemmas
pub mod MadeLemmas
pub mod BackLemmas
pub mod CarryLemmas
pub mod GroupLemmas
mod WholeLemmas
mod NearLemmas
pub mod DamageRecordLemmas
mod NumberLemmas
mod StreamLemmas
pub mod BlockLemmas
pub mod SentLemmas
pub mod FitLemmas
pub mod ReadLemmas
pub mod FrameSignalLemmas
pub mod CarriedLemmas
pub mod BegunLemmas
pub mod PassLemmas
pub mod LossLemmas
pub mod WrittenLemmas
pub mod FrameRecordLemmas
pub mod ArriveLemmas
pub mod FullLemmas
pub mod OrderLemmas
pub mod RemadeLemmas
pub mod ByteLemmas
pub mod AgainLemmas
