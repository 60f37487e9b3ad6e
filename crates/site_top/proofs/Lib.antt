pub mod CompareLemmas
pub mod CompleteLemmas
pub mod EndingLemmas
pub mod GatewayLemmas
pub mod RequestLemmas
pub mod RunLemmas
pub mod HaveEndingLemmas
pub mod MendLemmas
mod MergeLemmas
mod SurvivorLemmas
mod SwapLemmas
pub mod PlaceLemmas
pub mod PlanCommandLemmas
mod RecoverLemmas
mod JoinedLemmas
pub mod TouchLemmas
