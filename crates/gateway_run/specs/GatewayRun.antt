-- What a run of a gateway over files does, by the bytes of its files and by how common PLPs are used.
use Rattle.std.specs.Prelude.{◌≡◌, ◌≢◌, ℕ, ◌+◌, ◌-◌, ◌*◌, ◌/◌, ◌<◌, ◌≤◌, List, ◌++◌, length, take, [], slice_index, Ok}
use Rattle.std.specs.Prelude.{Err}
use Rattle.plp_config.specs.SlotTime.{slots_by}
use Rattle.plp_config.specs.declared.config.Config.{Config}
use Rattle.plp_config.specs.declared.moment.TheConstants.{MOST_FRAMES}
use Rattle.ts_packet.specs.TsFile.{packets_in, HasBad, ReadsNoBad, joined}
use Rattle.ts_packet.specs.declared.sizes.TheConstants.{SIZE}
use Rattle.t2mi_stream.specs.Pipe as piping
use Rattle.t2mi_stream.specs.Pipe.{pipe, carried_len}
use Rattle.t2mi_stream.specs.Complete.{complete_units}
use Rattle.gateway_core.specs.Packets.{front_packets, packets_of}
use Rattle.file_run.specs.Work.{Work, AreWhole}
use Rattle.file_run.specs.declared.stop.RunFault.TheVariants.{TooLong, ReadFault, WriteFault}
use Rattle.file_run.specs.declared.stop.RunStop.TheVariants.{Refused, Files, OutOfMemory}
use Rattle.common_plp.specs.Inputs.{place_of, input_count, streams_by}
use Rattle.common_plp.specs.Sharing.{Sharing}
use Rattle.gateway_run.specs.Inputs.{IsBefore, frames_by}
use Rattle.gateway_run.specs.declared.stop.GatewayStop.{GatewayStop}
use Rattle.gateway_run.specs.declared.stop.GatewayStop.TheVariants.{Bad, TooManyFrames}
use Rattle.gateway_run.specs.declared.stop.GatewayRan.{GatewayRan}

-- the packets of each file, up to its first bad one
abbrev pub inputs_of : (ℕ → List ℕ) → ℕ → List (List ℕ)
inputs_of files input = packets_in (files input)

-- how many frames and which units a run has over files, each up to its first bad packet
abbrev pub frames_of : Sharing → Config → (ℕ → List ℕ) → ℕ
frames_of w c files = frames_by w c (inputs_of files)

abbrev pub units_of : Sharing → Config → (ℕ → List ℕ) → List (List ℕ)
units_of w c files = pipe c.pid (packets_of c (streams_by w c (inputs_of files)))

-- A frame wants the packets of the slots that are over when it begins.
abbrev pub Wants : Sharing → Config → ℕ → ℕ → ℕ → Type 0
Wants w c frame input packet = packet < slots_by c (place_of w c input) (frame * c.ticks)

-- A frame wants the bad packet of an input, if there is one.
abbrev pub WantsBad : Sharing → Config → (ℕ → List ℕ) → ℕ → ℕ → Type 0
WantsBad w c files frame input = HasBad (files input) × Wants w c frame input (length (packets_in (files input)))

-- No frame up to this one wants a bad packet.
abbrev pub MeetsNone : Sharing → Config → (ℕ → List ℕ) → ℕ → Type 0
MeetsNone w c files frame = (input : ℕ) → input < input_count w c → ¬ (WantsBad w c files frame input)

-- This is the bad packet that is met first: the first frame that wants one wants it, and none that is looked at before.
pub record MeetsBad (w : Sharing) (c : Config) (files : ℕ → List ℕ) (frame input packet : ℕ) : Type 0 where
  pub place : input < input_count w c
  pub number : packet ≡ length (packets_in (files input))
  pub wants : WantsBad w c files frame input
  pub before : MeetsNone w c files (frame - 1)
  pub below : (other : ℕ) → other < input_count w c → IsBefore w c other (length (packets_in (files other)))
      input packet
      → ¬ (WantsBad w c files frame other)

-- No input was read further than a frame wants.
abbrev pub ReadsNoFurther : Sharing → Config → List ℕ → ℕ → Type 0
ReadsNoFurther w c places frame = (input : ℕ) → input < length places
    → slice_index places input ≤ SIZE * slots_by c (place_of w c input) (frame * c.ticks)

-- These bytes are the first of all units.
abbrev pub BeginsUnits : Sharing → Config → (ℕ → List ℕ) → List ℕ → Type 0
BeginsUnits w c files bytes = (more : List ℕ) × (joined (units_of w c files) ≡ bytes ++ more)

-- These bytes are the complete units of the frames before one.
abbrev pub CompleteBefore : Sharing → Config → (ℕ → List ℕ) → ℕ → List ℕ → Type 0
CompleteBefore w c files frame bytes =
    bytes ≡ joined (complete_units c.pid (front_packets c (streams_by w c (inputs_of files)) frame))

-- A run to its end: all inputs were read to their ends and have no bad packet, the output is all units of all their
-- packets, and the numbers told are those of the frames and the units.
pub record RunsAll (w : Sharing) (c : Config) (files : ℕ → List ℕ) (ran : GatewayRan)
    (places bytes : List ℕ) : Type 0 where
  pub ends : AreWhole files places
  pub whole : (input : ℕ) → input < input_count w c → ¬ (HasBad (files input))
  pub early : ran.frames ≤ MOST_FRAMES
  pub frames_are : ran.frames ≡ frames_of w c files
  pub units_are : ran.units ≡ length (units_of w c files)
  pub output : bytes ≡ joined (units_of w c files)

-- A bad packet was met. The output is the complete units of the frames before the one that met it.
pub record StopsAtBad (w : Sharing) (c : Config) (files : ℕ → List ℕ) (input packet : ℕ) (places bytes : List ℕ) :
    Type 0 where
  pub frame : ℕ
  pub early : frame ≤ MOST_FRAMES
  pub no_further : ReadsNoFurther w c places frame
  pub meets : MeetsBad w c files frame input packet
  pub output : CompleteBefore w c files frame bytes

-- Neither an earlier frame wants a bad packet, nor this one of a slot that is looked at before.
abbrev pub MeetsNoneBefore : Sharing → Config → (ℕ → List ℕ) → ℕ → ℕ → ℕ → Type 0
MeetsNoneBefore w c files frame input slot = MeetsNone w c files (frame - 1)
    × ((other : ℕ) → other < input_count w c → IsBefore w c other (length (packets_in (files other))) input slot
    → ¬ (WantsBad w c files frame other))

-- A run over files has more frames than may be, and none of those that may be wants a bad packet.
abbrev pub HasTooManyFrames : Sharing → Config → (ℕ → List ℕ) → Type 0
HasTooManyFrames w c files = MeetsNone w c files MOST_FRAMES × (MOST_FRAMES < frames_of w c files)

-- No more was read than the frames want that may be, and the output is their complete units.
pub record StopsAtLate (w : Sharing) (c : Config) (files : ℕ → List ℕ) (places bytes : List ℕ) : Type 0 where
  pub no_further : ReadsNoFurther w c places MOST_FRAMES
  pub begins : BeginsUnits w c files bytes
  pub output : CompleteBefore w c files MOST_FRAMES bytes

-- This input, of which a frame wants more than was read, gives no more: it could not be read on, or is too long. No bad
-- packet of it was read whole, and none was met before. The output is the complete units of the frames before this one.
pub record StopsReading (w : Sharing) (c : Config) (files : ℕ → List ℕ) (input : ℕ) (places bytes : List ℕ) :
    Type 0 where
  pub frame : ℕ
  pub early : frame ≤ MOST_FRAMES
  pub wants : slice_index places input < SIZE * slots_by c (place_of w c input) (frame * c.ticks)
  pub no_further : ReadsNoFurther w c places frame
  pub read : ReadsNoBad (files input) (slice_index places input)
  pub before : MeetsNoneBefore w c files frame input (slice_index places input / SIZE)
  pub begins : BeginsUnits w c files bytes
  pub output : CompleteBefore w c files frame bytes

-- These bytes are the complete units of the frames before one, and then some more of all units, or none, but not all.
pub record BeginsSome (w : Sharing) (c : Config) (files : ℕ → List ℕ) (frame : ℕ) (bytes : List ℕ) : Type 0 where
  pub more : List ℕ
  pub some : more ≢ []
  pub begins : joined (units_of w c files) ≡ bytes ++ more
  pub since : List ℕ
  pub complete : bytes ≡ joined (complete_units c.pid (front_packets c (streams_by w c (inputs_of files)) frame))
      ++ since

-- These bytes hold the first byte of a frame: so many whole units of them carry more bytes than the packets of the
-- frames before have.
pub record HoldsFirst (w : Sharing) (c : Config) (files : ℕ → List ℕ) (bytes : List ℕ) (frame : ℕ) : Type 0 where
  pub units : ℕ
  pub rest : List ℕ
  pub written : bytes ≡ joined (take units (units_of w c files)) ++ rest
  pub carried : length (piping.joined (front_packets c (streams_by w c (inputs_of files)) frame))
      < carried_len units (piping.joined (packets_of c (streams_by w c (inputs_of files))))

-- Of no input was more read than the frame two behind one wants whose first byte these bytes lack.
abbrev pub ReadsAhead : Sharing → Config → (ℕ → List ℕ) → List ℕ → List ℕ → Type 0
ReadsAhead w c files places bytes = (frame : ℕ) → ¬ (HoldsFirst w c files bytes frame)
    → ReadsNoFurther w c places (frame + 2)

-- The output could not be written on, when inputs were read for a frame, and no bad packet was met.
pub record StopsWriting (w : Sharing) (c : Config) (files : ℕ → List ℕ) (places bytes : List ℕ) : Type 0 where
  pub frame : ℕ
  pub early : frame ≤ MOST_FRAMES
  pub no_further : ReadsNoFurther w c places frame
  pub before : MeetsNone w c files frame
  pub some : BeginsSome w c files frame bytes
  pub ahead : ReadsAhead w c files places bytes

-- What a run does, by what it tells.
abbrev pub gateway_work : Sharing → Config → Work GatewayRan GatewayStop
gateway_work w c files (Ok ran) places bytes = RunsAll w c files ran places bytes
gateway_work w c files (Err (Refused (Bad input packet))) places bytes = StopsAtBad w c files input packet places bytes
gateway_work w c files (Err (Refused TooManyFrames)) places bytes = HasTooManyFrames w c files
    × StopsAtLate w c files places bytes
gateway_work w c files (Err (Files (TooLong input))) places bytes = StopsReading w c files input places bytes
gateway_work w c files (Err (Files (ReadFault input))) places bytes = StopsReading w c files input places bytes
gateway_work w c files (Err (Files WriteFault)) places bytes = StopsWriting w c files places bytes
gateway_work w c files (Err OutOfMemory) places bytes = ⊥
