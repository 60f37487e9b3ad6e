pub mod Front
pub mod Laws
pub mod PacketFile
pub mod PacketText
pub mod RecordText
pub mod SaidLines
pub mod Shows
pub mod T2miText
-- inner: no public clause cites these
pub mod FrameLines
pub mod PacketLines
pub mod LinesStop
pub mod T2miLines
