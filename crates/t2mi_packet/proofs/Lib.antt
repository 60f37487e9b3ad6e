pub mod BodyLemmas
pub mod FrontLemmas
pub mod LawLemmas
pub mod PacketLemmas
pub mod RowLemmas
pub mod SpellLemmas
pub mod WrittenLemmas
pub mod PutLemmas
