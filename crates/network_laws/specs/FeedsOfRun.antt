-- Feeds that have nothing but packets of one run.
use Rattle.std.specs.Prelude.{◌≡◌, ◌≢◌, ◌⊎◌, ℕ, ◌+◌, ◌-◌, ◌<◌, ◌≤◌, ◌==◌, Bool, true, false, List, []}
use Rattle.std.specs.Prelude.{◌∷◌, map, length, Some, None, slice_get, slice_index_or}
use Rattle.std.specs.List.{filter, items_where_true, range_with_len, zip, AllByRecursion}
use Rattle.plp_config.specs.Capacity.{IsPlan}
use Rattle.plp_config.specs.InterleavingFrames.{begin_of}
use Rattle.plp_config.specs.Places.{FramesStandAlone}
use Rattle.plp_config.specs.declared.config.Config.{Config}
use Rattle.plp_config.specs.declared.moment.TheConstants.{MOST_FRAMES}
use Rattle.ts_packet.specs.TsFile.{joined}
use Rattle.t2mi_stream.specs.Pipe.{pipe}
use Rattle.t2mi_packet.specs.declared.packet.Packet.{Packet}
use Rattle.frame_groups.specs.Numbers.{frame_key}
use Rattle.frame_groups.specs.Tests.{rules}
use Rattle.mode_adapt.specs.Blocks.{own_blocks, told_counts}
use Rattle.record_laws.specs.Frames.{frame_of}
use Rattle.open_group.specs.Written.{packets_view}
use Rattle.gateway_core.specs.Packets.{frame_bodies, packets_of as run_packets_of}
use Rattle.stream_laws.specs.SentPackets.{Sent, packets_of as sent_packets, frame_packets, AreApart}
use Rattle.stream_laws.specs.SentFrames.{sent_frames, run_length}
use Rattle.stream_laws.specs.Types.{TypesFit}
use Rattle.feed_events.specs.Arrivals.{arrivals}
use Rattle.feed_events.specs.FeedEvents.{FeedEvent, is_stamp, has_stamp, between_idle, feed_events}
use Rattle.feed_events.specs.FeedEvents.FeedEvent.{Has, Silent}
use Rattle.mended_frames.specs.Picks.{Coming}
use Rattle.spaced_frames.specs.Spaced.{SentFrame}
use Rattle.mended_frames.specs.Feeds.{all_of, made_of_all}
use Rattle.mended_frames.specs.Mended.{Made, mended, packets_of, frame_of as made_frame}
use Rattle.network_laws.specs.MendedRun.{mended_bytes}

-- the packets of frame n of a run
abbrev pub run_packets : Config → (ℕ → List (List ℕ)) → ℕ → List Packet
run_packets c inputs n = frame_packets n (sent_frames c inputs (run_length c inputs))

-- Packets are what came of some, in their order.
pub record CameOf (all came : List Packet) : Type 0 where
  pub flags : List Bool
  pub are : came ≡ items_where_true flags all

-- A feed has packets of the run's frame of this number, as they were sent, or is silent.
abbrev pub IsOfRun : Config → (ℕ → List (List ℕ)) → FeedEvent → Type 0
IsOfRun c inputs (Has x) = (x.number < run_length c inputs) × CameOf (run_packets c inputs x.number) x.group.packets
IsOfRun c inputs Silent = Unit {0}

-- So it is of all events of so many feeds, and no others come.
pub record AreOfRun (c : Config) (inputs : ℕ → List (List ℕ)) (k : ℕ) (feeds : ℕ → Coming) : Type 0 where
  pub events : (i : ℕ) → i < k → AllByRecursion (IsOfRun c inputs) (feeds i).events
  pub over : (i : ℕ) → i < k → (feeds i).over ≡ true

-- all packets of the frames of a run, frame by frame
abbrev pub run_event : Config → (ℕ → List (List ℕ)) → ℕ → FeedEvent
run_event c inputs n = Has (record
    { number = n; group = record { key = frame_key c.frames n; packets = run_packets c inputs n } })

abbrev pub run_events : Config → (ℕ → List (List ℕ)) → List FeedEvent
run_events c inputs = map (run_event c inputs) (range_with_len 0 (run_length c inputs))

-- If feeds have nothing but packets of one run, each in a group of its frame's number, and one of them has all
-- packets of all frames, then what is sent of the frames that are made is all frames of the run, each as it was sent,
-- whatever the others lack.
abbrev pub WholeFeedMade : Type 0
WholeFeedMade = (c : Config) (inputs : ℕ → List (List ℕ)) (k whole : ℕ) (feeds : ℕ → Coming) → IsPlan c → TypesFit c
    → AreOfRun c inputs k feeds → whole < k → (feeds whole).events ≡ run_events c inputs
    → packets_of c (mended c k feeds) ≡ run_packets_of c inputs

-- So it is of streams: if one of them is the whole stream of the run, and the others have nothing but packets of it,
-- in groups of their frames' numbers, then what is written is that stream, bit for bit, whatever the others lack and
-- however long they were out.
abbrev pub WholeStreamMended : Type 0
WholeStreamMended = (c : Config) (inputs : ℕ → List (List ℕ)) (k whole : ℕ) (streams : ℕ → List ℕ) → IsPlan c
    → TypesFit c
    → run_length c inputs ≤ MOST_FRAMES → whole < k → streams whole ≡ joined (pipe c.pid (run_packets_of c inputs))
    → ((i : ℕ) → i < k → i ≢ whole → AllByRecursion (IsOfRun c inputs) (feed_events (rules c) true (streams i)))
    → mended_bytes c k streams ≡ joined (pipe c.pid (run_packets_of c inputs))

-- It is told of packets which came: fewer than 256 in a row, and so many before the first, did not come before each
-- that did.
abbrev pub FewLack : ℕ → List Bool → Type 0
FewLack lacking [] = Unit {0}
FewLack lacking (true ∷ flags) = (lacking < 256) × FewLack 0 flags
FewLack lacking (false ∷ flags) = FewLack (lacking + 1) flags

-- Packets are what came of some, in their order, so near one another that packet_count, which is told modulo 256,
-- tells their places.
pub record CameNear (all came : List Packet) : Type 0 where
  pub flags : List Bool
  pub are : came ≡ items_where_true flags all
  pub few : FewLack 0 flags

-- A feed has such packets of the run's frame of this number, or is silent.
abbrev pub IsNearOfRun : Config → (ℕ → List (List ℕ)) → FeedEvent → Type 0
IsNearOfRun c inputs (Has x) = (x.number < run_length c inputs) × CameNear (run_packets c inputs x.number)
    x.group.packets
IsNearOfRun c inputs Silent = Unit {0}

-- a frame of the run, by what its packets carry
abbrev pub run_frame : Config → (ℕ → List (List ℕ)) → ℕ → SentFrame
run_frame c inputs n = record { number = n; bodies = frame_bodies c n (told_counts c inputs n) (own_blocks c inputs n) }

-- A frame that was made is the run's frame of its number: it is sent as that frame is, and its record is that frame.
pub record IsRunFrame (c : Config) (inputs : ℕ → List (List ℕ)) (x : Made) : Type 0 where
  pub inside : x.number < run_length c inputs
  pub sent : made_frame c x ≡ run_frame c inputs x.number
  pub recorded : packets_view c x.number x.group.packets ≡ frame_of c inputs x.number

-- If feeds have nothing but such packets of one run, each in a group of its frame's number, then each frame that is
-- made of them, by one feed or of several together, is the run's frame of that number, however long a feed was out
-- and however silent it was.
abbrev pub MadeAreOfRun : Type 0
MadeAreOfRun = (c : Config) (inputs : ℕ → List (List ℕ)) (k : ℕ) (feeds : ℕ → Coming) → IsPlan c → TypesFit c
    → ((i : ℕ) → i < k → AllByRecursion (IsNearOfRun c inputs) (feeds i).events)
    → AllByRecursion (IsRunFrame c inputs) (mended c k feeds)

-- Packets so came of some, and that at a place is one of them.
abbrev pub HasCome : List Packet → List Packet → ℕ → Type 0
HasCome all came place = (near : CameNear all came) × (slice_index_or near.flags place false ≡ true)

-- In a feed the packet at a place of the run's frame n came, in a group of that number.
abbrev pub BringsPacket : Config → (ℕ → List (List ℕ)) → ℕ → ℕ → List FeedEvent → Type 0
BringsPacket c inputs n place [] = ⊥
BringsPacket c inputs n place (Has x ∷ events) =
    ((x.number ≡ n) × HasCome (run_packets c inputs n) x.group.packets place) ⊎ BringsPacket c inputs n place events
BringsPacket c inputs n place (Silent ∷ events) = BringsPacket c inputs n place events

-- Of frame n each packet that is no timestamp came in one of so many feeds.
abbrev pub AllCame : Config → (ℕ → List (List ℕ)) → ℕ → (ℕ → Coming) → ℕ → Type 0
AllCame c inputs k feeds n = (place : ℕ) (p : Packet) → slice_get (run_packets c inputs n) place ≡ Some p
    → is_stamp p ≡ false → (i : ℕ) × (i < k) × BringsPacket c inputs n place (feeds i).events

-- Of each of some frames of a run all so came; and with each those are among them in which the interleaving frames
-- began that it carries. (Where one frame carries each interleaving frame, that is the frame itself.)
pub record HaveCome (c : Config) (inputs : ℕ → List (List ℕ)) (Came : ℕ → Type 0) (frames : ℕ → Bool) : Type 0 where
  pub inside : (n : ℕ) → frames n ≡ true → n < run_length c inputs
  pub came : (n : ℕ) → frames n ≡ true → Came n
  pub begun : (n plp : ℕ) → frames n ≡ true → plp < length c.plps → frames (begin_of c plp n) ≡ true

-- A feed has packets of frame n.
abbrev pub HasNumber : ℕ → List FeedEvent → Type 0
HasNumber n [] = ⊥
HasNumber n (Has x ∷ events) = (x.number ≡ n) ⊎ HasNumber n events
HasNumber n (Silent ∷ events) = HasNumber n events

-- how many of some frames there are from one number to before another
abbrev pub count_between : (ℕ → Bool) → ℕ → ℕ → ℕ
count_between frames low high = length (filter frames (range_with_len low (high - low)))

-- The numbers of a feed's groups rise, from one on; and between two of them, and before the first, it is silent no more
-- often than there are frames between, of some frames. (So many silences were before.)
abbrev pub GoesOn : (ℕ → Bool) → ℕ → ℕ → List FeedEvent → Type 0
GoesOn frames low silences [] = Unit {0}
GoesOn frames low silences (Has x ∷ events) =
    (low ≤ x.number) × (silences ≤ count_between frames low x.number) × GoesOn frames (x.number + 1) 0 events
GoesOn frames low silences (Silent ∷ events) = GoesOn frames low (silences + 1) events

-- So it is of so many feeds, by frames of which some feed has packets, and no others come. (A silence gives its feed up
-- for one frame: so none is given up for a frame of which it has packets. It is so if no feed is silent.)
pub record GoOn (k : ℕ) (feeds : ℕ → Coming) : Type 0 where
  pub frames : ℕ → Bool
  pub there : (n : ℕ) → frames n ≡ true → (i : ℕ) × (i < k) × HasNumber n (feeds i).events
  pub on : (i : ℕ) → i < k → GoesOn frames 0 0 (feeds i).events
  pub over : (i : ℕ) → i < k → (feeds i).over ≡ true

-- The run's frame n is one of those that were made.
abbrev pub HasRunFrame : Config → (ℕ → List (List ℕ)) → ℕ → List Made → Type 0
HasRunFrame c inputs n [] = ⊥
HasRunFrame c inputs n (x ∷ made) = ((x.number ≡ n) × IsRunFrame c inputs x) ⊎ HasRunFrame c inputs n made

-- If feeds have nothing but packets of one run, near one another, each in a group of its frame's number, and none is
-- silent too often, then each frame of which every packet came in some feed is made, and is the run's frame of its
-- number, whatever each feed lacks.
abbrev pub CameAreMade : Type 0
CameAreMade = (c : Config) (inputs : ℕ → List (List ℕ)) (k : ℕ) (feeds : ℕ → Coming) (frames : ℕ → Bool) → IsPlan c
    → TypesFit c → ((i : ℕ) → i < k → AllByRecursion (IsNearOfRun c inputs) (feeds i).events) → GoOn k feeds
    → HaveCome c inputs (AllCame c inputs k feeds) frames → (n : ℕ) → frames n ≡ true
    → HasRunFrame c inputs n (mended c k feeds)

-- which packets of frame n survive, if it is told which of all do
abbrev pub frame_survival : ℕ → List Sent → List Bool → List Bool
frame_survival n sent survival = map (λ p. p.1) (filter (λ p. p.0.frame == n) (zip sent survival))

-- what survives of frame n
abbrev pub left_of : Config → (ℕ → List (List ℕ)) → List Bool → ℕ → List Packet
left_of c inputs survival n = frame_packets n (items_where_true survival (sent_frames c inputs (run_length c inputs)))

-- Something is left of frame m, and n is the next frame behind it of which something is.
pub record IsNextLeft (left : ℕ → List Packet) (m n : ℕ) : Type 0 where
  pub later : m < n
  pub from : left m ≢ []
  pub to : left n ≢ []
  pub between : (b : ℕ) → m < b → b < n → left b ≡ []

-- The next frame of which something is left has the superframe_idx and frame_idx of the one right behind the last such
-- frame only if it is that one, or if a timestamp of it is left.
abbrev pub NextIsTold : ℕ → (ℕ → List Packet) → Type 0
NextIsTold frames left = (m n : ℕ) → IsNextLeft left m n → frame_key frames n ≡ frame_key frames (m + 1)
    → (n ≡ m + 1) ⊎ (has_stamp (left n) ≡ true)

-- Of the run's packets some survive, in their order and as they were sent. A loss may be as long as it will if its
-- length shows: superframe_idx counts modulo 16. Let the last packet before it be of frame m, and the first one behind
-- it of frame n. Its length does not show if n is another frame than m, but has its superframe_idx and frame_idx; if
-- that first packet is a timestamp, which has no frame_idx, of another superframe than m's, but has its superframe_idx;
-- or if n is another frame than m + 1, but has its superframe_idx and frame_idx, and no timestamp of n survives. And in
-- a frame fewer than 256 packets in a row are lost before each that survives.
pub record SurvivesOfRun (c : Config) (inputs : ℕ → List (List ℕ)) (survival : List Bool) : Type 0 where
  pub told : length survival ≡ length (sent_frames c inputs (run_length c inputs))
  pub apart : AreApart c.frames None (items_where_true survival (sent_frames c inputs (run_length c inputs)))
  pub next : NextIsTold c.frames (left_of c inputs survival)
  pub few : (n : ℕ) → n < run_length c inputs
      → FewLack 0 (frame_survival n (sent_frames c inputs (run_length c inputs)) survival)

-- the packets that do
abbrev pub surviving : Config → (ℕ → List (List ℕ)) → List Bool → List Packet
surviving c inputs survival = sent_packets (items_where_true survival (sent_frames c inputs (run_length c inputs)))

-- What arrives in a stream between one idle unit and the next is what so survives of the run's packets. None is made
-- by damage; behind an idle unit they may be of any frames.
pub record IsDamagedRun (c : Config) (inputs : ℕ → List (List ℕ)) (bytes : List ℕ) : Type 0 where
  pub survivals : List (List Bool)
  pub arrive : between_idle (arrivals c.pid bytes) ≡ map (surviving c inputs) survivals
  pub parts : AllByRecursion (SurvivesOfRun c inputs) survivals

-- If each stream is such a damaged one, each frame that is made is the run's frame of its number.
abbrev pub DamagedRunsMended : Type 0
DamagedRunsMended = (c : Config) (inputs : ℕ → List (List ℕ)) (k : ℕ) (streams : ℕ → List ℕ) → IsPlan c → TypesFit c
    → run_length c inputs ≤ MOST_FRAMES → ((i : ℕ) → i < k → IsDamagedRun c inputs (streams i))
    → AllByRecursion (IsRunFrame c inputs) (made_of_all c k streams)

-- So each frame is made of which every packet came, if none is silent too often.
abbrev pub CameOfDamagedMade : Type 0
CameOfDamagedMade = (c : Config) (inputs : ℕ → List (List ℕ)) (k : ℕ) (streams : ℕ → List ℕ) (frames : ℕ → Bool)
    → IsPlan c → TypesFit c → run_length c inputs ≤ MOST_FRAMES
    → ((i : ℕ) → i < k → IsDamagedRun c inputs (streams i)) → GoOn k (all_of c streams)
    → HaveCome c inputs (AllCame c inputs k (all_of c streams)) frames → (n : ℕ) → frames n ≡ true
    → HasRunFrame c inputs n (made_of_all c k streams)

-- And if one is the whole stream of the run and each other one is damaged, what is written is that stream.
abbrev pub WholeAmongDamaged : Type 0
WholeAmongDamaged = (c : Config) (inputs : ℕ → List (List ℕ)) (k whole : ℕ) (streams : ℕ → List ℕ) → IsPlan c
    → TypesFit c
    → run_length c inputs ≤ MOST_FRAMES → whole < k → streams whole ≡ joined (pipe c.pid (run_packets_of c inputs))
    → ((i : ℕ) → i < k → i ≢ whole → IsDamagedRun c inputs (streams i))
    → mended_bytes c k streams ≡ joined (pipe c.pid (run_packets_of c inputs))

-- Of frame n and of those before it so much survives that its number is known: a timestamp of one, and a packet of each
-- behind that one.
pub record IsNumbered (c : Config) (inputs : ℕ → List (List ℕ)) (survival : List Bool) (n : ℕ) : Type 0 where
  pub from : ℕ
  pub before : from ≤ n
  pub stamp : has_stamp (left_of c inputs survival from) ≡ true
  pub each : (b : ℕ) → from < b → b ≤ n → left_of c inputs survival b ≢ []

-- Of frame n each packet that is no timestamp survives in one of so many streams, in which its number is known.
abbrev pub AllSurvive : Config → (ℕ → List (List ℕ)) → ℕ → (ℕ → List Bool) → ℕ → Type 0
AllSurvive c inputs k survivals n = (place : ℕ) (p : Packet) → slice_get (run_packets c inputs n) place ≡ Some p
    → is_stamp p ≡ false
    → (i : ℕ) × (i < k) × IsNumbered c inputs (survivals i) n
    × (slice_index_or (frame_survival n (sent_frames c inputs (run_length c inputs)) (survivals i)) place false ≡ true)

-- What arrives in a stream is what so survives of the run's packets, with no idle unit.
pub record IsLossyRun (c : Config) (inputs : ℕ → List (List ℕ)) (survival : List Bool) (bytes : List ℕ) : Type 0 where
  pub arrive : between_idle (arrivals c.pid bytes) ≡ surviving c inputs survival ∷ []
  pub survives : SurvivesOfRun c inputs survival

-- If each stream is such a one, each frame is made of which every packet survives in one of them, whatever each lost.
abbrev pub SurvivorsMended : Type 0
SurvivorsMended = (c : Config) (inputs : ℕ → List (List ℕ)) (k : ℕ) (streams : ℕ → List ℕ) (survivals : ℕ → List Bool)
    (frames : ℕ → Bool) → IsPlan c → TypesFit c → run_length c inputs ≤ MOST_FRAMES
    → ((i : ℕ) → i < k → IsLossyRun c inputs (survivals i) (streams i))
    → HaveCome c inputs (AllSurvive c inputs k survivals) frames
    → (n : ℕ) → frames n ≡ true → HasRunFrame c inputs n (made_of_all c k streams)

-- Where one frame carries each interleaving frame, it is so of each frame by itself.
abbrev pub SurvivorAlone : Type 0
SurvivorAlone = (c : Config) (inputs : ℕ → List (List ℕ)) (k : ℕ) (streams : ℕ → List ℕ) (survivals : ℕ → List Bool)
    → IsPlan c → TypesFit c → FramesStandAlone c → run_length c inputs ≤ MOST_FRAMES
    → ((i : ℕ) → i < k → IsLossyRun c inputs (survivals i) (streams i)) → (n : ℕ) → n < run_length c inputs
    → AllSurvive c inputs k survivals n → HasRunFrame c inputs n (made_of_all c k streams)

-- So if each packet of each frame survives in one of them, what is written is the run's stream, bit for bit.
abbrev pub NoneLostMended : Type 0
NoneLostMended = (c : Config) (inputs : ℕ → List (List ℕ)) (k : ℕ) (streams : ℕ → List ℕ) (survivals : ℕ → List Bool)
    → IsPlan c → TypesFit c → run_length c inputs ≤ MOST_FRAMES
    → ((i : ℕ) → i < k → IsLossyRun c inputs (survivals i) (streams i))
    → ((n : ℕ) → n < run_length c inputs → AllSurvive c inputs k survivals n)
    → mended_bytes c k streams ≡ joined (pipe c.pid (run_packets_of c inputs))
