pub mod Accepted
pub mod Complete
pub mod CompleteLaws
pub mod Events
pub mod Laws
pub mod Pipe
pub mod PiperStandsFor
pub mod Received
pub mod Skipping
pub mod SurvivorLaws
pub mod Survivors
pub mod Units
pub mod UnpiperStandsFor
pub mod FirstPid
-- inner: no public clause cites these
pub mod Candidate
pub mod RunTaken
pub mod Machine
pub mod Pipes
pub mod SpellLaws
pub mod Stands
pub mod CandidateStands
-- of the crates below, for those who read this one
pub use Rattle.t2mi_packet.specs.Spell
pub use Rattle.t2mi_packet.specs.T2miPacket
pub use Rattle.ts_packet.specs.FieldsIn
pub use Rattle.ts_packet.specs.Written
