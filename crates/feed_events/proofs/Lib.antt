pub mod UnderLemmas
pub mod ArrivalLemmas
pub mod StandsLemmas
pub mod CourseLemmas
