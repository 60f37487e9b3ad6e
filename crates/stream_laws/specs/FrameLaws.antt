-- Laws of a run as a stream of which units are lost or altered.
use Rattle.std.specs.Prelude.{◌≡◌, ◌<◌, ◌≤◌, ℕ, true, Bool, List, map, length, drop}
use Rattle.plp_config.specs.Capacity.{IsPlan}
use Rattle.plp_config.specs.RunLength.{frame_count}
use Rattle.plp_config.specs.declared.config.Config.{Config}
use Rattle.plp_config.specs.declared.moment.TheConstants.{MOST_FRAMES}
use Rattle.ts_packet.specs.TsFile.{joined}
use Rattle.t2mi_stream.specs.Pipe.{pipe}
use Rattle.t2mi_stream.specs.Received.{Fate, AlteredWhole}
use Rattle.t2mi_stream.specs.Survivors.{AreKept}
use Rattle.mode_adapt.specs.Blocks.{own_blocks, told_counts}
use Rattle.frame_groups.specs.Tests.{rules}
use Rattle.record_laws.specs.Frames.{frame_of, HasByteIds, run_frames}
use Rattle.record_laws.specs.Records.{file_bytes}
use Rattle.gateway_core.specs.Packets.{frame_bodies, packets_of}
use Rattle.open_group.specs.Written.{packets_view}
use Rattle.modulator.specs.StandsFor.{bytes_due}
use Rattle.stream_laws.specs.SentPackets.{AreFrames, frame_packets}
use Rattle.stream_laws.specs.DamageLaws.{RulesMeet}
use Rattle.stream_laws.specs.Streams.{IsStream, Honest}
use Rattle.stream_laws.specs.SentFrames.{sent_frames, frames_stream, run_stream, stream_bytes, all_kept, left_records}
use Rattle.stream_laws.specs.SentFrames.{run_records}
use Rattle.stream_laws.specs.Types.{TypesFit}

-- The packets of a run are sent frame by frame: each frame has one, and they tell their frames.
abbrev pub SentAreFrames : Type 0
SentAreFrames = (c : Config) (inputs : ℕ → List (List ℕ)) (n : ℕ) → 0 < c.frames
    → AreFrames c.frames n (sent_frames c inputs n)

-- The packets of a frame carry what the frame has.
abbrev pub FrameCarries : Type 0
FrameCarries = (c : Config) (inputs : ℕ → List (List ℕ)) (n m : ℕ) → m < n
    → map (λ p. p.body) (frame_packets m (sent_frames c inputs n))
    ≡ frame_bodies c m (told_counts c inputs m) (own_blocks c inputs m)

-- The packets of a plan's frames are a stream.
abbrev pub FramesAreStream : Type 0
FramesAreStream = (c : Config) (inputs : ℕ → List (List ℕ)) (n : ℕ) → IsPlan c → HasByteIds c → n ≤ MOST_FRAMES
    → IsStream (frames_stream c inputs n)

-- The six tests make of it what they must, whatever survives.
abbrev pub TestsMeet : Type 0
TestsMeet = (c : Config) (inputs : ℕ → List (List ℕ)) (n : ℕ) (survival : List Bool) → IsPlan c → TypesFit c
    → n ≤ MOST_FRAMES
    → length survival ≡ length (sent_frames c inputs n)
    → RulesMeet (rules c) n (sent_frames c inputs n) survival

-- What is written of the packets of a frame is the frame.
abbrev pub WrittenIsFrame : Type 0
WrittenIsFrame = (c : Config) (inputs : ℕ → List (List ℕ)) (n m : ℕ) → IsPlan c → TypesFit c → m < n
    → packets_view c m (frame_packets m (sent_frames c inputs n)) ≡ frame_of c inputs m

-- A run of which all units from one on are kept is honest.
abbrev pub KeptIsHonest : Type 0
KeptIsHonest = (c : Config) (inputs : ℕ → List (List ℕ)) (n from : ℕ) (fates : List Fate) → IsPlan c → HasByteIds c
    → n ≤ MOST_FRAMES → AlteredWhole fates
    → AreKept (length (drop from (pipe c.pid (frames_stream c inputs n).packets))) fates
    → Honest (frames_stream c inputs n) from fates

-- If all units of a run are kept, the bytes that are received are those that the gateway writes.
abbrev pub WholeArrives : Type 0
WholeArrives = (c : Config) (inputs : ℕ → List (List ℕ)) → joined (pipe c.pid (packets_of c inputs))
    ≡ stream_bytes (run_stream c inputs) 0 (all_kept (run_stream c inputs) 0)

-- And the records that must come of a plan's run are its frames.
abbrev pub WholeComes : Type 0
WholeComes = (c : Config) (inputs : ℕ → List (List ℕ)) → IsPlan c → HasByteIds c
    → frame_count c (λ plp. length (inputs plp))
    ≤ MOST_FRAMES
    → run_records c inputs 0 (all_kept (run_stream c inputs) 0) ≡ run_frames c inputs

-- If damage is honest, what is written of what is received are the records that must come.
abbrev pub WrittenMustCome : Config → Type 0
WrittenMustCome c = (inputs : ℕ → List (List ℕ)) (n from : ℕ) (fates : List Fate) → n ≤ MOST_FRAMES
    → Honest (frames_stream c inputs n) from fates
    → bytes_due c true (stream_bytes (frames_stream c inputs n) from fates) ≡ file_bytes
    (left_records c inputs n from fates)

-- So it is if all units from one on came as they were sent.
abbrev pub UndamagedMustCome : Config → Type 0
UndamagedMustCome c = (inputs : ℕ → List (List ℕ)) (n from : ℕ) → n ≤ MOST_FRAMES
    → bytes_due c true (stream_bytes (frames_stream c inputs n) from (all_kept (frames_stream c inputs n) from))
    ≡ file_bytes (left_records c inputs n from (all_kept (frames_stream c inputs n) from))
