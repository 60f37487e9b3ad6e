pub mod TransportPacket
pub mod Null
pub mod Reading
pub mod FieldsIn
pub mod TsFile
pub mod Written
pub mod Laws
-- of the crates below, for those who read this one
pub use Rattle.terms.specs.Bits
