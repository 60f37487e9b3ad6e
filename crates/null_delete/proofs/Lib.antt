pub mod RunLemmas
pub mod PushLemmas
pub mod LawLemmas
