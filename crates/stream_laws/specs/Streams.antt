-- A stream of packets that are sent frame by frame, and what has to be true of damage.
use Rattle.std.specs.Prelude.{◌≡◌, ℕ, ◌^◌, ◌<◌, Bool, List, map, None}
use Rattle.std.specs.List.{items_where_true}
use Rattle.t2mi_stream.specs.Laws.{ArePackets}
use Rattle.t2mi_stream.specs.Received.{Fate}
use Rattle.t2mi_stream.specs.Survivors.{sent_packets, received_packets, survival, AreSent}
use Rattle.modulator.specs.Modulating.{packet_of}
use Rattle.stream_laws.specs.SentPackets.{Sent, packets_of, AreFrames, AreNear}

-- the packets of so many frames, each with its frame, and as bytes, on a PID
pub record Stream : Type 0 where
  pub pid : ℕ
  pub frames : ℕ
  pub count : ℕ
  pub sent : List Sent
  pub packets : List (List ℕ)

-- The stream is sent frame by frame, and its bytes read as its packets.
pub record IsStream (s : Stream) : Type 0 where
  pub pid : s.pid < 2 ^ 13
  pub some : 0 < s.frames
  pub frames : AreFrames s.frames s.count s.sent
  pub spelled : ArePackets s.packets
  pub reads : map packet_of s.packets ≡ packets_of s.sent

-- which packets survive, if only the units from one on are received, by their fates
abbrev pub stream_survival : Stream → ℕ → List Fate → List Bool
stream_survival s from fates = survival s.pid s.packets from fates

abbrev pub stream_survivors : Stream → ℕ → List Fate → List Sent
stream_survivors s from fates = items_where_true (stream_survival s from fates) s.sent

-- Damage is honest: nothing is accepted that was not sent, and no loss is so long that keys come again.
pub record Honest (s : Stream) (from : ℕ) (fates : List Fate) : Type 0 where
  -- Every accepted packet stands at the place of a sent packet's first byte and equals that packet.
  pub sent : AreSent (received_packets s.pid s.packets from fates) (sent_packets s.packets from fates)
  -- The frames of two successive survivors are less than 16 superframes apart, and so are their superframes if the
  -- later one is a timestamp.
  pub near : AreNear s.frames None (stream_survivors s from fates)
