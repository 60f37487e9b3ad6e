-- What a merger stands for.
use Rattle.std.specs.Prelude.{◌≡◌, ◌≢◌, ℕ, ◌+◌, ◌*◌, ◌%◌, ◌≤◌, Bool, true, false, List, [], ◌++◌, length, drop}
use Rattle.plp_config.specs.declared.config.Config.{Config}
use Rattle.ts_packet.specs.TsFile.{joined}
use Rattle.ts_packet.specs.declared.sizes.TheConstants.{SIZE}
use Rattle.t2mi_packet.specs.declared.packet.Body.{Body}
use Rattle.t2mi_stream.specs.Complete.{complete_units}
use Rattle.t2mi_stream.specs.Pipe.{pipe}
use Rattle.terms.specs.Lists.{IsPrefix}
use Rattle.frame_writer.specs.FirstPacket.{from_step}
use Rattle.frame_writer.specs.FramePackets.{l1_body, packets_from}
use Rattle.frame_writer.specs.Flowing.{Flows, bytes_bound, gives_unit}
use Rattle.frame_writer.specs.Left.{left_of, blocks_left}
use Rattle.frame_writer.specs.Signalling.{pre_part, conf_part}
use Rattle.frame_writer.specs.declared.frame.PoolFrame.{PoolFrame}
use Rattle.feed_merge.specs.declared.merger.Merger.{Merger}

-- its network, and the number of the last frame that was begun
abbrev pub config_of : Merger → Config
config_of m = m.plan.now

abbrev pub frame_of : Merger → ℕ
frame_of m = m.place.number

-- what is left of that frame
abbrev pub left_in : Merger → PoolFrame → List Body
left_in m f = left_of m.plan.now m.place f

-- the same of a frame of the network by its dynamic part and its blocks
abbrev pub left_by : Merger → List Bool → List (List (List ℕ)) → List Body
left_by m dynamic lists =
    from_step m.plan.now m.place.number m.place.step
    (l1_body m.plan.now m.place.number (pre_part m.plan.now) (conf_part m.plan.now) dynamic)
    (blocks_left m.plan.now (m.place.number % m.plan.now.frames) m.place.plp m.place.place lists)

-- What the packets of the frames begun carry, each with the number of its frame; of the last one these are left; and so
-- many units were given.
unfoldable pub MergerStandsFor : Merger → List Body → List (ℕ × Body) → ℕ → Type 0
MergerStandsFor m left all given = Flows m.flow.outlet m.plan.now m.place.number left all given

-- A unit of the frames begun is complete, or no more frames come and a byte is left.
abbrev pub has_unit : Merger → Bool
has_unit m = gives_unit m.flow.outlet

-- No more frames come.
abbrev pub has_finished : Merger → Bool
has_finished m = m.flow.finished

-- no fewer than the bytes of the frames begun that were not yet given, if these bodies are left
abbrev pub bytes_left : Merger → List Body → ℕ
bytes_left m left = bytes_bound m.flow.outlet left

-- All packets of the frames begun were fed.
abbrev pub is_fed : Merger → Bool
is_fed m = m.flow.dry

-- The bytes are units of the frames begun, of which the last is this one.
pub record GivesUnits (old new : Merger) (frame : PoolFrame) (full : Bool) (bytes : List ℕ) : Type 0 where
  pub units : List (List ℕ)
  pub bytes_are : bytes ≡ joined units
  pub size : length bytes ≡ SIZE * length units
  pub stands : (bodies : List (ℕ × Body)) (given : ℕ) → MergerStandsFor old (left_in old frame) bodies given
      → MergerStandsFor new (left_in new frame) bodies (given + length units)
  -- They are the next ones of all, whatever packets follow; after the end none follows.
  pub next : (bodies : List (ℕ × Body)) (given : ℕ) → MergerStandsFor old (left_in old frame) bodies given
      → (more : List (List ℕ)) → (has_finished old ≡ true → more ≡ [])
      → IsPrefix units (drop given (pipe (config_of old).pid (packets_from (config_of old) 0 bodies ++ more)))
  -- Before the end only complete ones are given;
  pub complete : has_finished old ≡ false → units ≢ [] → (bodies : List (ℕ × Body)) (given : ℕ)
      → MergerStandsFor old (left_in old frame) bodies given
      → given + length units ≤ length (complete_units (config_of old).pid (packets_from (config_of old) 0 bodies))
  -- one at least if the room ended, and else all, and nothing is left of the frame.
  pub some : full ≡ true → units ≢ []
  pub all : full ≡ false → has_finished old ≡ false → (bodies : List (ℕ × Body)) (given : ℕ)
      → MergerStandsFor old (left_in old frame) bodies given
      → given + length units ≡ length (complete_units (config_of old).pid (packets_from (config_of old) 0 bodies))
  pub spent : full ≡ false → left_in new frame ≡ []
  pub idle : full ≡ false → has_unit new ≡ false
  -- So a loop that takes units ends.
  pub less : bytes_left new (left_in new frame) + length units ≤ bytes_left old (left_in old frame)
  pub network : config_of new ≡ config_of old
  pub finished : has_finished new ≡ has_finished old
