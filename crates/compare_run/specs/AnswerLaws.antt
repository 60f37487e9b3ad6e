-- Laws of the frames of two streams.
use Rattle.std.specs.Prelude.{◌≡◌, ◌≢◌, ◌↔◌, ◌<◌, ◌≤◌, ◌^◌, ℕ, min, true, false, List, [], ◌∷◌, ◌++◌, map, length, take}
use Rattle.std.specs.Prelude.{slice_index_or, Some, None, option_to_list}
use Rattle.plp_config.specs.Capacity.{IsPlan}
use Rattle.plp_config.specs.InterleavingFrames.{is_first}
use Rattle.plp_config.specs.Places.{FramesStandAlone}
use Rattle.plp_config.specs.declared.config.Config.{Config}
use Rattle.plp_config.specs.declared.moment.TheConstants.{MOST_FRAMES}
use Rattle.t2mi_packet.specs.declared.packet.Packet.{Packet}
use Rattle.t2mi_stream.specs.Received.{Fate}
use Rattle.stream_laws.specs.Streams.{Honest}
use Rattle.stream_laws.specs.SentFrames.{frames_stream, stream_bytes}
use Rattle.stream_laws.specs.Types.{TypesFit}
use Rattle.frame_groups.specs.Modulated.{FrameRecord, Numbered}
use Rattle.frame_groups.specs.Begun.{packets_at}
use Rattle.frame_groups.specs.Carried.{right_blocks}
use Rattle.record_laws.specs.Frames.{HasByteIds}
use Rattle.open_group.specs.Sent.{held_bytes}
use Rattle.open_group.specs.Written.{dynamic_in, spelled}
use Rattle.modulator.specs.StandsFor.{records_of}
use Rattle.feed_merge.specs.Groups.{groups_of}
use Rattle.feed_merge.specs.Laws.{AllBelow, AreOf}
use Rattle.feed_merge.specs.Picks.{is_frame}
use Rattle.compare_run.specs.Comparing.{Frames, frames_of, carried, whole_answer, record_at, Answered, answered_at}
use Rattle.compare_run.specs.Comparing.{answers, dynamic_at, first_other, PlpDifference, difference, plp_differences}
use Rattle.compare_run.specs.Lines.{known_text, text_of}
use Rattle.compare_run.specs.Runs.{first_differing}
use Rattle.compare_run.specs.declared.answer.Answer.TheVariants.{Same, Differs}
use Rattle.compare_run.specs.declared.answer.Other.{Other}
use Rattle.compare_run.specs.declared.answer.Place.TheVariants.{Block}

-- records, and groups with numbers
abbrev pub frames_by : List FrameRecord → List Numbered → Frames
frames_by records groups = record { records = records; groups = groups }

-- If the records of a number come behind those of lower numbers, then so does what is said of that number, by the same
-- groups.
abbrev pub AnswersGrow : Type 0
AnswersGrow = (c : Config) (ga gb : List Numbered) (ra rb xs ys : List FrameRecord) (n : ℕ) → AllBelow n ra
    → AllBelow n rb
    → AreOf n xs → AreOf n ys
    → answers c (frames_by (ra ++ xs) ga) (frames_by (rb ++ ys) gb)
    ≡ answers c (frames_by ra ga) (frames_by rb gb) ++ option_to_list (answered_at c (frames_by xs ga)
    (frames_by ys gb) n)

-- What is known by some frames is the beginning of all lines, whatever frames follow.
abbrev pub KnownBegins : Type 0
KnownBegins = (of : ℕ → List PlpDifference) (xs ys : List Answered)
    → (rest : List ℕ) × (text_of of (xs ++ ys) ≡ known_text of xs ++ rest)

-- If both streams are honest damage of the first n frames of one run, no frame differs.
abbrev pub NoneDiffers : Type 0
NoneDiffers = (c : Config) (inputs : ℕ → List (List ℕ)) (n from later : ℕ) (fates others : List Fate)
    → IsPlan c → TypesFit c
    → n ≤ MOST_FRAMES → Honest (frames_stream c inputs n) from fates → Honest (frames_stream c inputs n) later others
    → first_differing (answers c (frames_of c (stream_bytes (frames_stream c inputs n) from fates))
    (frames_of c (stream_bytes (frames_stream c inputs n) later others))) ≡ None

-- If every interleaving frame is carried by one frame, a frame carries the blocks of its own group.
abbrev pub CarriesOwn : Type 0
CarriesOwn = (c : Config) (gs : List Numbered) (plp n : ℕ) → FramesStandAlone c → plp < length c.plps
    → carried c gs plp n ≡ map held_bytes (right_blocks c plp (packets_at gs n))

-- ---- what is said of PLPs

-- Two lists are the same before the first place at which they differ. If one of them ends there, they have different
-- numbers of blocks; else both have a block there, and not the same.
pub record DifferFirst (a b : List (List ℕ)) (o : Other) : Type 0 where
  pub before : take o.number a ≡ take o.number b
  pub count : o.is_end ≡ true → (length a ≢ length b) × (min (length a) (length b) ≡ o.number)
  pub block : o.is_end ≡ false → (o.number < length a) × (o.number < length b)
      × (slice_index_or a o.number [] ≢ slice_index_or b o.number [])

-- So it is at each place that is told, and none is told exactly of lists that are the same.
abbrev pub OthersAreFirst : Type 0
OthersAreFirst = (a b : List (List ℕ)) → ((first_other a b ≡ None) ↔ (a ≡ b))
    × ((o : Other) → first_other a b ≡ Some o → DifferFirst a b o)

-- Two whole frames are the same exactly if their L1 is and no PLP differs.
abbrev pub SameHasNone : Type 0
SameHasNone = (c : Config) (ga gb : List Numbered) (n : ℕ)
    → (whole_answer c n ga gb ≡ Same) ↔ ((dynamic_at ga n ≡ dynamic_at gb n) × (plp_differences c ga gb n ≡ []))

-- If a block is told of a frame, it is that of the first of its PLPs that differ.
abbrev pub BlockIsFirst : Type 0
BlockIsFirst = (c : Config) (ga gb : List Numbered) (n id number : ℕ)
    → whole_answer c n ga gb ≡ Differs (Block id number)
    → (o : Other) × (rest : List PlpDifference) × (plp_differences c ga gb n ≡ difference id o ∷ rest)
    × (o.number ≡ number)

-- ---- what `same` says of the records that a modulator writes

-- Frame n is whole in both streams: these are its records.
pub record BothWhole (c : Config) (a b : List ℕ) (n : ℕ) (x y : FrameRecord) : Type 0 where
  pub first : record_at n (records_of c a) ≡ Some x
  pub second : record_at n (records_of c b) ≡ Some y
  pub whole_first : is_frame x.content ≡ true
  pub whole_second : is_frame y.content ≡ true

-- Packets of frame n have the same dynamic part of L1, and the same blocks of each PLP of which an interleaving frame
-- begins there (EN 302 755, clauses 6.5 and 7.2.3.2).
pub record BeginSame (c : Config) (n : ℕ) (pa pb : List Packet) : Type 0 where
  pub dynamic : dynamic_in pa ≡ dynamic_in pb
  pub blocks : (plp : ℕ) → plp < length c.plps → is_first c plp n ≡ true → right_blocks c plp pa ≡ right_blocks c plp pb

-- If a frame that is whole in both streams is called the same, a modulator writes the same record of it for both,
-- whatever the spreads are.
abbrev pub SameIsWritten : Type 0
SameIsWritten = (c : Config) (a b : List ℕ) (n : ℕ) (x y : FrameRecord) → IsPlan c → BothWhole c a b n x y
    → whole_answer c n (groups_of c a) (groups_of c b) ≡ Same → spelled c x ≡ spelled c y

-- It writes the same record for both exactly if L1 and the blocks are the same that begin there. L1-pre and the
-- configurable part are the configuration's in each record, with zeros in their reserved fields, whatever the packets
-- have there.
abbrev pub WrittenIsBegun : Type 0
WrittenIsBegun = (c : Config) (a b : List ℕ) (n : ℕ) (x y : FrameRecord) → IsPlan c → HasByteIds c → n < 2 ^ 32
    → BothWhole c a b n x y → (spelled c x ≡ spelled c y) ↔ BeginSame c n (packets_at (groups_of c a) n)
    (packets_at (groups_of c b) n)

-- So if every interleaving frame is carried by one frame, a frame is called the same exactly if its records are.
abbrev pub SameIsExact : Type 0
SameIsExact = (c : Config) (a b : List ℕ) (n : ℕ) (x y : FrameRecord) → IsPlan c → HasByteIds c → n < 2 ^ 32
    → FramesStandAlone c → BothWhole c a b n x y
    → (whole_answer c n (groups_of c a) (groups_of c b) ≡ Same) ↔ (spelled c x ≡ spelled c y)
