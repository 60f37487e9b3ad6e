-- What was done to a feed and the swapper of its frames. No public clause cites this module.
use Rattle.std.specs.Prelude.{◌≡◌, ◌≢◌, ◌⊎◌, ℕ, ◌+◌, ◌*◌, ◌^◌, ◌<◌, ◌≤◌, nat_lt, Bool, true, false, List, [], ◌∷◌, ◌++◌}
use Rattle.std.specs.Prelude.{length, take, Some, None, slice_index, if◌then◌else◌}
use Rattle.plp_config.specs.Capacity.{IsPlan}
use Rattle.plp_config.specs.SlotTime.{slots_by}
use Rattle.plp_config.specs.declared.config.Config.{Config}
use Rattle.plp_config.specs.declared.moment.TheConstants.{MOST_FRAMES}
use Rattle.ts_packet.specs.TsFile.{joined, begins_with_packet, ArePackets}
use Rattle.ts_packet.specs.declared.sizes.TheConstants.{SYNC}
use Rattle.terms.specs.Lists.{IsPrefix}
use Rattle.frame_groups.specs.Modulated.{FrameRecord}
use Rattle.frame_groups.specs.declared.waiting.Waiting.{Waiting}
use Rattle.t2mi_packet.specs.declared.packet.Body.{Body}
use Rattle.t2mi_stream.specs.Complete.{complete_units}
use Rattle.t2mi_stream.specs.Pipe.{pipe}
use Rattle.modulator.specs.StandsFor.{records_due}
use Rattle.stream_laws.specs.Remade.{NumberedView, remade_packets}
use Rattle.file_run.specs.Events.{Event, fed, has_ended, gave}
use Rattle.feed_merge.specs.Frames.{lists_of}
use Rattle.feed_merge.specs.FeedStandsFor.{waiting_of}
use Rattle.feed_merge.specs.declared.feed.FrameFeed.{FrameFeed}
use Rattle.feed_merge.specs.Picks.{above_all}
use Rattle.gateway_core.specs.InputSoFar.{Told, Continues}
use Rattle.feed_merge.specs.Fed.{NoneComes}
use Rattle.feed_merge.specs.Both.{OfFeed}
use Rattle.region_swap.specs.StandsFor.{SwapperStandsFor, Status, status_of, has_unit, is_fed, left_for, bytes_left}
use Rattle.region_swap.specs.Swapped.{frames_in, swapped}
use Rattle.region_swap.specs.declared.swapper.Swapper.{Swapper}
use Rattle.swap_run.specs.SwapRun.{slots_of}
use Rattle.swap_run.specs.declared.phase.Phase.{Phase}
use Rattle.swap_run.specs.declared.phase.Phase.TheVariants.{Records, Packets, Units, Drains, Rests, Done, Stopped}
use Rattle.swap_run.specs.declared.stop.SwapStop.{SwapStop}
use Rattle.swap_run.specs.declared.stop.SwapStop.TheVariants.{NoSuperframe, InputRefused, TooManyFrames}
use Rattle.swap_run.specs.declared.machine.SwapMachine.{SwapMachine}

-- Of an input these packets were offered, and then others taken, so many in all; a tail is no packet. If it ended for
-- the swapper, it did.
pub record ReadsPackets (bytes : List ℕ) (ended : Bool) (t : Told) (rest : List (List ℕ)) (tail : List ℕ) (taken : ℕ)
    (over : Bool) : Type 0 where
  pub parts : bytes ≡ joined (t.packets ++ rest) ++ tail
  pub each : ArePackets (t.packets ++ rest)
  pub count : taken ≡ length (t.packets ++ rest)
  pub end : tail ≡ [] → ended ≡ over
  pub told : t.ended ≡ true → (over ≡ true) × (rest ≡ []) × (tail ≡ [])

-- Of these frames, with the PLP replaced, units were given, the first ones whatever packets follow, and before the end
-- only complete ones. Of the last one these bodies are left.
pub record Sends (c : Config) (plp : ℕ) (s : Swapper) (t : Told) (left : List Body) (frames : List NumberedView)
    (count : ℕ)
    (gave : List ℕ) : Type 0 where
  pub stands : SwapperStandsFor s c plp t left frames count
  pub units : List (List ℕ)
  pub gave_is : gave ≡ joined units
  pub count_is : count ≡ length units
  pub front : (input : List (List ℕ)) → Continues t input → (more : List (List ℕ))
      → ((status_of s).finished ≡ true → more ≡ [])
      → IsPrefix units (pipe c.pid (remade_packets c (swapped c plp input frames) ++ more))
  pub whole : (status_of s).finished ≡ false → (input : List (List ℕ)) → Continues t input
      → count ≤ length (complete_units c.pid (remade_packets c (swapped c plp input frames)))

-- All complete units were given.
pub record HasCaughtUp (c : Config) (plp : ℕ) (s : Swapper) (t : Told) (frames : List NumberedView) (count : ℕ) :
    Type 0 where
  pub idle : has_unit s ≡ false
  pub complete : (input : List (List ℕ)) → Continues t input
      → count ≡ length (complete_units c.pid (remade_packets c (swapped c plp input frames)))

-- Of the frames of these records, with the PLP replaced, all complete units were given.
abbrev pub WereGiven : Config → ℕ → Told → List FrameRecord → ℕ → Type 0
WereGiven c plp t records count = (input : List (List ℕ)) → Continues t input
    → length (complete_units c.pid (remade_packets c (swapped c plp input (frames_in c records)))) ≤ count

-- These are the first of the records that were given: all that are due by fewer bytes than were fed. Of their frames,
-- with the PLP replaced, all complete units were given.
pub record IsLive (c : Config) (plp : ℕ) (bytes : List ℕ) (t : Told) (given : List FrameRecord) (count : ℕ) :
    Type 0 where
  pub sent : List FrameRecord
  pub part : IsPrefix sent given
  pub due : (k : ℕ) → k < length bytes → IsPrefix (records_due c false (take k bytes)) sent
  pub done : WereGiven c plp t sent count

-- ---- where it is

-- what was told and taken: the records, what the swapper was told, the packets that it was not offered, and a tail
pub record Read : Type 0 where
  pub given : List FrameRecord
  pub told : Told
  pub rest : List (List ℕ)
  pub tail : List ℕ

-- Every packet that was taken was offered, and nothing else came.
pub record IsQuiet (draining ended over : Bool) (rest : List (List ℕ)) (tail : List ℕ) : Type 0 where
  pub rest_is : rest ≡ []
  pub tail_is : tail ≡ []
  pub calm : draining ≡ false
  pub ends : ended ≡ over

-- The next record is looked for.
pub record InRecords (c : Config) (plp : ℕ) (m : SwapMachine) (r : Read) : Type 0 where
  pub caught : HasCaughtUp c plp m.swapper r.told (frames_in c r.given) m.ran.units
  pub next : m.number ≡ above_all r.given
  pub few : length r.told.packets ≤ slots_of c plp r.given
  pub quiet : IsQuiet m.draining m.ended r.told.ended r.rest r.tail

-- A record waits, and packets of the frames up to its own are taken.
pub record InPackets (c : Config) (plp : ℕ) (m : SwapMachine) (r : Read) : Type 0 where
  pub caught : HasCaughtUp c plp m.swapper r.told (frames_in c r.given) m.ran.units
  pub waiting : Waiting
  pub waits : waiting_of m.feed ≡ Some waiting
  pub early : waiting.frame < MOST_FRAMES
  pub behind : m.number ≤ waiting.frame
  pub above : above_all r.given ≤ m.number
  pub few : length r.told.packets ≤ slots_by c plp (m.number * c.ticks)
  pub quiet : IsQuiet m.draining m.ended r.told.ended r.rest r.tail

-- Units of the frame under way are given, behind those of the frames before. Its record waits still.
pub record InUnits (c : Config) (plp : ℕ) (m : SwapMachine) (r : Read) : Type 0 where
  pub before : List FrameRecord
  pub last : FrameRecord
  pub parts : r.given ≡ before ++ last ∷ []
  pub done : WereGiven c plp r.told before m.ran.units
  pub waiting : Waiting
  pub waits : waiting_of m.feed ≡ Some waiting
  pub whole : waiting.mute ≡ None
  pub here : waiting.frame ≡ m.number
  pub next : m.number + 1 ≡ above_all r.given
  pub early : m.number < MOST_FRAMES
  pub few : length r.told.packets ≤ slots_of c plp r.given
  pub quiet : IsQuiet m.draining m.ended r.told.ended r.rest r.tail

-- No record comes, and there was one.
pub record IsBehindAll (c : Config) (plp : ℕ) (f : FrameFeed) (number : ℕ) (given : List FrameRecord)
    (packets : List (List ℕ)) : Type 0 where
  pub none : NoneComes f
  pub some : given ≢ []
  pub next : number ≡ above_all given
  pub few : length packets ≤ slots_of c plp given

pub record InDrains (c : Config) (plp : ℕ) (m : SwapMachine) (r : Read) : Type 0 where
  pub caught : HasCaughtUp c plp m.swapper r.told (frames_in c r.given) m.ran.units
  pub behind : IsBehindAll c plp m.feed m.number r.given r.told.packets
  pub whole : r.tail ≡ []
  pub drains : m.draining ≡ true

pub record InRests (c : Config) (plp : ℕ) (m : SwapMachine) (r : Read) : Type 0 where
  pub all_fed : is_fed m.swapper ≡ true
  pub done : WereGiven c plp r.told r.given m.ran.units
  pub behind : IsBehindAll c plp m.feed m.number r.given r.told.packets
  pub whole : r.tail ≡ []
  pub over : m.ended ≡ true

pub record IsDone (c : Config) (plp : ℕ) (m : SwapMachine) (r : Read) : Type 0 where
  pub all : (input : List (List ℕ)) → Continues r.told input
      → length (pipe c.pid (remade_packets c (swapped c plp input (frames_in c r.given)))) ≡ m.ran.units
  pub behind : IsBehindAll c plp m.feed m.number r.given r.told.packets
  pub whole : r.tail ≡ []
  pub over : m.ended ≡ true

-- The stream was read to its end, and had no record.
pub record StopsWithNone (c : Config) (plp : ℕ) (m : SwapMachine) (r : Read) : Type 0 where
  pub none : NoneComes m.feed
  pub nothing : r.given ≡ []
  pub first : m.number ≡ 0
  pub quiet : IsQuiet m.draining m.ended r.told.ended r.rest r.tail

-- A record waits whose number none may have.
pub record StopsAtLate (c : Config) (plp : ℕ) (m : SwapMachine) (r : Read) : Type 0 where
  pub caught : HasCaughtUp c plp m.swapper r.told (frames_in c r.given) m.ran.units
  pub waiting : Waiting
  pub waits : waiting_of m.feed ≡ Some waiting
  pub late : MOST_FRAMES ≤ waiting.frame
  pub next : m.number ≡ above_all r.given
  pub quiet : IsQuiet m.draining m.ended r.told.ended r.rest r.tail

-- A frame up to that of the record that waits wants the next packet.
pub record IsWanted (c : Config) (plp : ℕ) (f : FrameFeed) (number : ℕ) (draining : Bool)
    (packets rest : List (List ℕ)) : Type 0 where
  pub waiting : Waiting
  pub waits : waiting_of f ≡ Some waiting
  pub early : waiting.frame < MOST_FRAMES
  pub behind : number ≤ waiting.frame
  pub wanted : length packets < slots_by c plp (number * c.ticks)
  pub offered : rest ≡ []
  pub calm : draining ≡ false

-- The next packet is bad, and wanted or of the rest.
pub record StopsAtBad (c : Config) (plp : ℕ) (m : SwapMachine) (r : Read) (over : Bool) (packet : ℕ) : Type 0 where
  pub caught : HasCaughtUp c plp m.swapper r.told (frames_in c r.given) m.ran.units
  pub number : packet ≡ length (r.told.packets ++ r.rest)
  pub some : r.tail ≢ []
  pub bad : begins_with_packet r.tail ≡ false
  -- It is none for its first byte, or since nothing follows.
  pub cut : (slice_index r.tail 0 ≢ SYNC) ⊎ (over ≡ true)
  pub met : IsWanted c plp m.feed m.number m.draining r.told.packets r.rest
      ⊎ IsBehindAll c plp m.feed m.number r.given r.told.packets

abbrev pub StopsFor : Config → ℕ → SwapMachine → Read → Bool → SwapStop → Type 0
StopsFor c plp m r over NoSuperframe = StopsWithNone c plp m r
StopsFor c plp m r over (InputRefused packet) = StopsAtBad c plp m r over packet
StopsFor c plp m r over TooManyFrames = StopsAtLate c plp m r

abbrev pub IsIn : Config → ℕ → SwapMachine → Read → Bool → Phase → Type 0
IsIn c plp m r over Records = InRecords c plp m r
IsIn c plp m r over Packets = InPackets c plp m r
IsIn c plp m r over Units = InUnits c plp m r
IsIn c plp m r over Drains = InDrains c plp m r
IsIn c plp m r over Rests = InRests c plp m r
IsIn c plp m r over Done = IsDone c plp m r
IsIn c plp m r over (Stopped why) = StopsFor c plp m r over why

-- ---- what is counted

-- whether a frame is under way, and whether no more come
abbrev pub begun_in : Phase → Bool
begun_in Records = false
begun_in Packets = false
begun_in Units = true
begun_in Drains = false
begun_in Rests = false
begun_in Done = false
begun_in (Stopped why) = false

abbrev pub finished_in : Phase → Bool
finished_in Records = false
finished_in Packets = false
finished_in Units = false
finished_in Drains = false
finished_in Rests = true
finished_in Done = true
finished_in (Stopped why) = false

-- the frame behind the one under way
abbrev pub next_in : Phase → ℕ → ℕ
next_in phase number = if begun_in phase then number + 1 else number

-- what is left of the frame under way, whose record waits
abbrev pub left_at : Phase → Swapper → FrameFeed → List Body
left_at Records s f = []
left_at Packets s f = []
left_at Units s f = left_for s (lists_of f)
left_at Drains s f = []
left_at Rests s f = []
left_at Done s f = []
left_at (Stopped why) s f = []

-- no fewer than the units that can be given before the next frame; between frames fewer than 184 bytes wait
abbrev pub more_units : Phase → Swapper → FrameFeed → ℕ
more_units Records s f = 184
more_units Packets s f = 184
more_units Units s f = 184 + bytes_left s (left_for s (lists_of f))
more_units Drains s f = 184
more_units Rests s f = bytes_left s []
more_units Done s f = 0
more_units (Stopped why) s f = 0

-- no frame has so many bytes
abbrev pub frame_bytes : ℕ
frame_bytes = 2 ^ 32

-- the numbers that are told
pub record IsCounted (frames muted unsent : ℕ) (joined : Bool) (given : List FrameRecord) (rest : List (List ℕ))
    (sent : List NumberedView) : Type 0 where
  pub frames_is : frames ≡ length sent
  pub muted_is : muted + frames ≡ length given
  pub unsent_is : unsent ≡ length rest
  pub joined_is : joined ≡ nat_lt 0 (length given)

-- No more records were given than frames were passed, and no more units than these have bytes.
pub record IsBound (next number units more : ℕ) (given : List FrameRecord) : Type 0 where
  pub few : length given ≤ next
  pub early : number ≤ MOST_FRAMES
  pub most : units + more ≤ next * frame_bytes + 184

-- what is seen of a swapper in a phase
abbrev pub status_in : Config → ℕ → ℕ → Phase → Status
status_in c plp number at = record {
  network = c;
  plp = plp;
  frame = number;
  begun = begun_in at;
  finished = finished_in at;
}

-- ---- what was done, and where a feed of a network and the swapper are then

-- The plan is of this network, and has the PLP.
pub record IsFor (c : Config) (plp : ℕ) (plan : Config) : Type 0 where
  pub config : plan ≡ c
  pub rules : IsPlan c
  pub place : plp < length c.plps

pub record ShownAt (c : Config) (plp : ℕ) (events : List Event) (m : SwapMachine) (at : Phase) : Type 0 where
  pub base : IsFor c plp m.plan.now
  pub read : Read
  pub of_feed : OfFeed (begun_in at) c m.feed (fed 0 events) (has_ended 0 events) read.given
  pub of_input : ReadsPackets (fed 1 events) (has_ended 1 events) read.told read.rest read.tail m.taken m.ended
  pub frame : read.told.frame ≡ m.number
  -- All that the frames of the records wanted was offered, unless the input ended.
  pub had : read.told.ended ≡ false → slots_of c plp read.given ≤ length read.told.packets
  pub sends : Sends c plp m.swapper read.told (left_at at m.swapper m.feed) (frames_in c read.given)
      m.ran.units (gave events)
  pub status : status_of m.swapper ≡ status_in c plp m.number at
  pub counted : IsCounted m.ran.frames m.ran.muted m.ran.unsent m.joined read.given read.rest (frames_in c read.given)
  pub bound : IsBound (next_in at m.number) m.number m.ran.units (more_units at m.swapper m.feed) read.given
  pub live : IsLive c plp (fed 0 events) read.told read.given m.ran.units
  pub is_in : IsIn c plp m read (has_ended 1 events) at

abbrev pub Shown : Config → ℕ → List Event → SwapMachine → Type 0
Shown c plp events m = ShownAt c plp events m m.phase

-- Something was done, and then they are there.
pub record HasShown (m : SwapMachine) : Type 0 where
  pub network : Config
  pub plp : ℕ
  pub events : List Event
  pub shown : Shown network plp events m
