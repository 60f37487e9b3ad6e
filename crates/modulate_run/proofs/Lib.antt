pub mod CountLemmas
pub mod FrontLemmas
pub mod LawLemmas
pub mod MachineLemmas
pub mod PlaceLemmas
pub mod WorkLemmas
