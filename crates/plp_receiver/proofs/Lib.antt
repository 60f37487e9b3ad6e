mod SpelledLemmas
mod TakingLemmas
mod BitsLemmas
mod ListLemmas
mod CountLemmas
mod SizeLemmas
mod SeenLemmas
mod ReadableLemmas
mod TakeLemmas
mod EpochLemmas
mod AloneLemmas
mod HeldLemmas
mod UniqueLemmas
pub mod StandsLemmas
pub mod OneLemmas
pub mod SlotLemmas
pub mod TurnLemmas
mod PieceLemmas
mod HoldsLemmas
mod OutLemmas
pub mod BlockLemmas
mod FillLemmas
pub mod SlotListLemmas
pub mod PlaceLemmas
mod ReadbackLemmas
mod WindowLemmas
pub mod TimeLemmas
mod FrameLemmas
mod BothLemmas
mod FieldLemmas
pub mod SlotsStandLemmas
mod LaterLemmas
pub mod LengthLemmas
pub mod LawLemmas
pub mod DueLemmas
pub mod ReleaseLemmas
pub mod StepLemmas
