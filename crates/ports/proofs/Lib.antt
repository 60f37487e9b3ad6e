pub mod FaultLemmas
pub mod FileLemmas
pub mod GivenLemmas
pub mod HandleLemmas
pub mod TextLemmas
pub mod WriteLemmas
