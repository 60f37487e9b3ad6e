mod RegularLemmas
mod KeptLemmas
mod GatewayLemmas
mod CarriedLemmas
mod SentLemmas
mod RecoverLemmas
mod LostLemmas
mod TakenLemmas
mod TellLemmas
pub mod GivenLemmas
pub mod MergeLemmas
mod FrameLemmas
mod SwapRunLemmas
pub mod BackLemmas
pub mod RowGroupLemmas
pub mod MendedRunLemmas
pub mod HonestGroupLemmas
pub mod FeedEventLemmas
pub mod RunEventLemmas
pub mod WholeFeedLemmas
pub mod RunPlaceLemmas
pub mod WovenRunLemmas
pub mod HonestFeedLemmas
pub mod DamagedFeedLemmas
