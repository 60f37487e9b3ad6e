pub mod CompareRun
pub mod Laws
pub mod Comparing
pub mod Runs
pub mod Lines
pub mod TallyStandsFor
pub mod AnswerLaws
-- inner: no public clause cites these
pub mod AsMachine
pub mod Shown
pub mod Steps
pub mod Taking
