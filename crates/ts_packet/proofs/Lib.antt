pub mod HeaderLemmas
pub mod SpellingLemmas
pub mod LawLemmas
pub mod WritingLemmas
pub mod ToldLemmas
pub mod JoinedLemmas
pub mod FileLemmas
