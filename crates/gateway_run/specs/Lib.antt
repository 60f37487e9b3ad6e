pub mod GatewayRun
pub mod Inputs
pub mod Laws
-- inner: no public clause cites these
pub mod Apart
pub mod Holds
pub mod Joint
pub mod Phases
pub mod Ready
pub mod Seen
