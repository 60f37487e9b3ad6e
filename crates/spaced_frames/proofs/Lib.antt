pub mod SendLemmas
pub mod NearLemmas
pub mod BoundLemmas
