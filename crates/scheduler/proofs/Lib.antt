pub mod SumLemmas
pub mod ShapeLemmas
pub mod OrderLemmas
