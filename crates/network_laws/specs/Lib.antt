pub mod ToldEpochs
pub mod RecoverLaws
pub mod Merged
pub mod Region
pub mod CommonLaws
pub mod FeedsOfRun
pub mod MendedRun
