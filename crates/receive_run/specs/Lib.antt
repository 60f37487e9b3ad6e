pub mod Laws
pub mod Received
pub mod ReceiveRun
pub mod JoinedLaws
pub mod JoinedReceived
pub mod JoinedRun
-- inner: no public clause cites these
pub mod AsMachine
pub mod NextStep
pub mod Taking
