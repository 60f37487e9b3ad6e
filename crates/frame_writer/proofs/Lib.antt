mod BlockLemmas
pub mod CarriedLemmas
pub mod FlowLemmas
pub mod UnitsLemmas
pub mod PlaceLemmas
