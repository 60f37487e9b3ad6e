-- No frame differs of two streams that are honest damage of one run.
use Rattle.std.proofs.Common.{◌≡◌, ℕ, zero, suc, ◌+◌, ◌-◌, ◌%◌, ◌<◌, ◌≤◌, ◌==◌, ◌&&◌, max, Bool, true, false, List, []}
use Rattle.std.proofs.Common.{◌∷◌, map, length, find, Option, Some, None, refl, ap, ap₂, sym, ◌∙◌, arith}
use Rattle.std.specs.Prelude.{option_map, option_to_list, if◌then◌else◌}
use Rattle.std.specs.List.{filter, flat_map, items_where_true, range_with_len}
use Rattle.std.specs.Option.{option_or}
use Rattle.std.proofs.lemmas.Bool.{eqb-true, and_parts}
use Rattle.std.proofs.lemmas.Option.{same_Some}
use Rattle.std.proofs.lemmas.List.Folds.{find-append}
use Rattle.terms.proofs.CaseLemmas.{bool_cases}
use Rattle.plp_config.specs.Capacity.{IsPlan}
use Rattle.plp_config.specs.InterleavingFrames.{begin_of}
use Rattle.plp_config.specs.Laws.{SuperframeBegins, BeginIsLast}
use Rattle.plp_config.specs.Rules.{AllRules}
use Rattle.plp_config.specs.declared.config.Config.{Config}
use Rattle.plp_config.specs.declared.moment.TheConstants.{MOST_FRAMES}
use Rattle.t2mi_stream.specs.Received.{Fate}
use Rattle.t2mi_stream.specs.Survivors.{received_packets}
use Rattle.frame_groups.specs.Groups.{Group, groups}
use Rattle.frame_groups.specs.Modulated.{Content, FrameRecord, Numbered}
use Rattle.frame_groups.specs.Modulated.Content.{Whole, Muted}
use Rattle.frame_groups.specs.Begun.{packets_at}
use Rattle.frame_groups.specs.Carried.{has_length, right_blocks}
use Rattle.frame_groups.specs.Tests.{rules}
use Rattle.record_laws.specs.Records.{numbers_from}
use Rattle.open_group.specs.Sent.{held_bytes}
use Rattle.open_group.specs.Written.{dynamic_in}
use Rattle.modulator.specs.Modulating.{packets_of}
use Rattle.modulator.specs.StandsFor.{records_of}
use Rattle.feed_merge.specs.Groups.{groups_of}
use Rattle.stream_laws.specs.GroupNumbers.{numbers_behind}
use Rattle.stream_laws.specs.DamageLaws.{WholeIsAll, RulesMeet}
use Rattle.stream_laws.specs.SentPackets.{Sent, frame_packets, frame_group}
use Rattle.stream_laws.specs.UnitLaws.{SurvivalLength, HonestGroups, HonestNumbers, HonestRecords}
use Rattle.stream_laws.specs.Streams.{Stream, IsStream, Honest, stream_survival}
use Rattle.stream_laws.specs.Survivors.{is_whole, loss_of, sent_record, end_of, survivor_records}
use Rattle.stream_laws.specs.FrameLaws.{SentAreFrames, FramesAreStream, TestsMeet}
use Rattle.stream_laws.specs.SentFrames.{sent_frames, frames_stream, stream_bytes}
use Rattle.stream_laws.specs.Types.{TypesFit}
use Rattle.stream_laws.proofs.BegunLemmas.{begun_survive}
use Rattle.stream_laws.proofs.FrameRecordLemmas.{last_below}
use Rattle.feed_merge.specs.Picks.{above_all}
use Rattle.compare_run.specs.Comparing.{place_of, place_answer, record_at, Answered, answered_by, answers}
use Rattle.compare_run.specs.AnswerLaws.{NoneDiffers}
use Rattle.compare_run.specs.Runs.{is_differing}
use Rattle.compare_run.specs.declared.answer.Place.{Place}
use Rattle.compare_run.proofs.CarriedLemmas.{nothing_differs}
use Rattle.compare_run.proofs.GrowLemmas.{listed}
use Rattle.compare_run.proofs.JoinLemmas.{IsFound, is_found, own_survive, joins_at}
use Rattle.compare_run.proofs.PastLemmas.{with_numbers, past_numbered, comes}

-- ---- a frame that is whole among the records that must come

module _ (c : Config) (sent : List Sent) (survival : List Bool) (m : ℕ) where
  abbrev whole : ℕ → Bool
  whole n = is_whole c sent survival n

  abbrev one : ℕ → FrameRecord
  one n = sent_record c sent survival n

  whole_content : (w : Bool) (n : ℕ) (g : Group)
      → (if w then Whole (frame_group c.frames sent n)
      else Muted (loss_of (frame_packets n (items_where_true survival sent)))) ≡ Whole g
      → w ≡ true
  whole_content true n g e = refl
  whole_content false n g e =
      absurd (let z : Muted (loss_of (frame_packets n (items_where_true survival sent))) ≡ Whole g = e in cc)

  in_range : (len a : ℕ) (x : FrameRecord) (g : Group) → record_at m (map one (range_with_len a len)) ≡ Some x
      → x.content ≡ Whole g
      → (a ≤ m) × (m < a + len) × (whole m ≡ true)
  in_range zero a x g e is = absurd (let z : ◌≡◌ {A = Option FrameRecord} None (Some x) = e in cc)
  in_range (suc len) a x g e is =
      bool_cases (a == m)
      (λ t. let own : a ≡ m = eqb-true a m t in
      let same : one a ≡ x = same_Some (one a) x (rw t at e) in (
        omega (arith, own),
        omega (arith, own),
        sym (ap whole own) ∙ whole_content (whole a) a g (ap (λ (y : FrameRecord). y.content) same ∙ is),
      ))
      (λ t. let later = in_range len (a + 1) x g (rw t at e) is in
      let low = later.0 in
      let high = later.1 in
      (omega (arith, low), omega (arith, high), later.2))

  abbrev joins : ℕ → Bool
  joins n = whole n && (n % c.frames == 0)

  -- behind the join
  record IsBehind (end : ℕ) : Type 0 where
    pub first : ℕ
    pub found : IsFound joins 0 end first
    pub low : first ≤ m
    pub high : m < end
    pub whole-is : whole m ≡ true

  behind : (end : ℕ) (x : FrameRecord) (g : Group) (o : Option ℕ) → find joins (range_with_len 0 end) ≡ o
      → record_at m (map one (numbers_from end o)) ≡ Some x → x.content ≡ Whole g → IsBehind end
  behind end x g None found e is = absurd (let z : ◌≡◌ {A = Option FrameRecord} None (Some x) = e in cc)
  behind end x g (Some first) found e is =
      let there = in_range (end - first) first x g e is in
      let low = there.0 in
      let high = there.1 in
      record {
        first = first;
        found = is_found joins 0 end first found;
        low = low;
        high = omega (arith, low, high);
        whole-is = there.2;
      }

  abbrev last : ℕ
  last = end_of (items_where_true survival sent)

  is_behind : (x : FrameRecord) (g : Group) → record_at m (survivor_records c sent survival) ≡ Some x
      → x.content ≡ Whole g
      → IsBehind last
  is_behind x g e is = behind last x g (find joins (range_with_len 0 last)) refl e is

-- ---- what it carries

-- Its packets are there, and all blocks that it carries.
record AreThere (c : Config) (sent : List Sent) (m : ℕ) (gs : List Numbered) : Type 0 where
  pub own : packets_at gs m ≡ frame_packets m sent
  pub blocks : (plp : ℕ) → plp < length c.plps
      → right_blocks c plp (packets_at gs (begin_of c plp m)) ≡ right_blocks c plp
      (frame_packets (begin_of c plp m) sent)

are_there : WholeIsAll → SuperframeBegins → BeginIsLast → (c : Config) (sent : List Sent) (survival : List Bool)
    (count first m : ℕ)
    (gs : List Numbered) → AllRules c → length survival ≡ length sent → first % c.frames ≡ 0 → first ≤ m → m < count
    → is_whole c sent survival m ≡ true
    → ((b : ℕ) → first ≤ b → b < count → packets_at gs b ≡ frame_packets b (items_where_true survival sent))
    → AreThere c sent m gs
are_there all superframe latest c sent survival count first m gs holds len begins low high w there = record {
  own = there m low high ∙ own_survive all c sent survival m len w;
  blocks = λ plp inside.
      let late = latest c plp m first holds inside (superframe c plp first holds inside begins) low in
      ap (right_blocks c plp) (there (begin_of c plp m) late (omega (arith, high)))
      ∙ ap (filter (has_length c plp)) (begun_survive all c sent survival plp m len inside w);
}

-- What is known of streams and runs.
pub record Known : Type 0 where
  pub all : WholeIsAll
  pub superframe : SuperframeBegins
  pub latest : BeginIsLast
  pub frames : SentAreFrames
  pub stream : FramesAreStream
  pub tests : TestsMeet
  pub len : SurvivalLength
  pub groups-are : HonestGroups
  pub numbers : HonestNumbers
  pub records : HonestRecords

-- so it is in an honest stream
stream_there : Known → (c : Config) (inputs : ℕ → List (List ℕ)) (n from : ℕ) (fates : List Fate) → IsPlan c
    → TypesFit c
    → n ≤ MOST_FRAMES → Honest (frames_stream c inputs n) from fates → (m : ℕ) (x : FrameRecord) (g : Group)
    → record_at m (records_of c (stream_bytes (frames_stream c inputs n) from fates)) ≡ Some x → x.content ≡ Whole g
    → AreThere c (sent_frames c inputs n) m (groups_of c (stream_bytes (frames_stream c inputs n) from fates))
stream_there known c inputs n from fates plan types few honest m x g e is =
    let s : Stream = frames_stream c inputs n in
    let are : IsStream s = known.stream c inputs n plan types.ids few in
    let survival : List Bool = stream_survival s from fates in
    let left : List Sent = items_where_true survival s.sent in
    let len : length survival ≡ length s.sent = known.len s from fates are in
    let meet : RulesMeet (rules c) n s.sent survival = known.tests c inputs n survival plan types few len in
    let frames = known.frames c inputs n are.some in
    let behind = is_behind c s.sent survival m x g
    (sym (ap (record_at m) (known.records (rules c) s from fates refl are honest meet)) ∙ e) is in
    let first : ℕ = behind.first in
    let end : ℕ = end_of left in
    let most : end ≤ n = last_below n s.sent survival None (omega arith) frames.below in
    let high = behind.high in
    let joins = joins_at known.all c n s.sent survival len frames.some meet end first most behind.found in
    let came : List Group = groups c.frames (packets_of (received_packets s.pid s.packets from fates)) in
    let past : groups_of c (stream_bytes s from fates) ≡ with_numbers [] came (numbers_behind (rules c) [] came) =
    past_numbered (rules c) [] came in
    let begins = eqb-true (first % c.frames) 0
    (and_parts (is_whole c s.sent survival first) (first % c.frames == 0) behind.found.passes).1 in
    are_there known.all known.superframe known.latest c s.sent survival n first m
    (groups_of c (stream_bytes s from fates)) plan.rules len
    begins behind.low (omega (arith, high, most)) behind.whole-is
    (λ b low below.
    ap (λ (gs : List Numbered). packets_at gs b)
    (past
    ∙ ap₂ (with_numbers []) (known.groups-are s from fates are honest)
    (known.numbers (rules c) s from fates first refl are honest joins))
    ∙ comes c.frames first left b low n 0 [] (omega arith) (omega (arith, below)) refl)

-- ---- so what both streams have of it does not differ

abbrev differs : Answered → Bool
differs x = is_differing x.answer

module _ (c : Config) (sent : List Sent) (m : ℕ) (ga gb : List Numbered) where
  both_there : AreThere c sent m ga → AreThere c sent m gb → place_of c m ga gb ≡ None
  both_there a b =
      nothing_differs c m ga gb (ap dynamic_in (a.own ∙ sym b.own))
      (λ plp inside. ap (map held_bytes) (a.blocks plp inside ∙ sym (b.blocks plp inside)))

  none_at : (o p : Option FrameRecord)
      → ((x : FrameRecord) (g : Group) → o ≡ Some x → x.content ≡ Whole g → AreThere c sent m ga)
      → ((x : FrameRecord) (g : Group) → p ≡ Some x → x.content ≡ Whole g → AreThere c sent m gb)
      → find differs (option_to_list (answered_by c m ga gb o p)) ≡ None
  none_at None None a b = refl
  none_at (Some x) None a b = one x.content
    where
      one : (s : Content) → find differs
          (option_to_list (answered_by c m ga gb (Some (record { number = m; content = s })) None)) ≡ None
      one (Whole g) = refl
      one (Muted cause) = refl
  none_at None (Some y) a b = one y.content
    where
      one : (s : Content) → find differs
          (option_to_list (answered_by c m ga gb None (Some (record { number = m; content = s })))) ≡ None
      one (Whole g) = refl
      one (Muted cause) = refl
  none_at (Some x) (Some y) a b = both x.content y.content refl refl
    where
      both : (s t : Content) → x.content ≡ s → y.content ≡ t
          → find differs (option_to_list (answered_by c m ga gb (Some (record { number = x.number; content = s }))
          (Some (record { number = y.number; content = t })))) ≡ None
      both (Whole g) (Whole h) e f =
          ap (λ (p : Option Place). find differs (record { frame = m; answer = place_answer p } ∷ []))
          (both_there (a x g refl e) (b y h refl f))
      both (Whole g) (Muted cause) e f = refl
      both (Muted cause) (Whole h) e f = refl
      both (Muted cause) (Muted other) e f = refl

none_in : (f : ℕ → List Answered) → ((k : ℕ) → find differs (f k) ≡ None) → (from n : ℕ)
    → find differs (flat_map f (range_with_len from n)) ≡ None
none_in f none from zero = refl
none_in f none from (suc n) =
    find-append differs (f from) (flat_map f (range_with_len (from + 1) n))
    ∙ ap (λ (o : Option Answered). option_or o (find differs (flat_map f (range_with_len (from + 1) n)))) (none from)
    ∙ none_in f none (from + 1) n

pub none_differs : Known → NoneDiffers
unfolding answers
none_differs known c inputs n from later fates others plan types few honest also =
    let s : Stream = frames_stream c inputs n in
    let a : List ℕ = stream_bytes s from fates in
    let b : List ℕ = stream_bytes s later others in
    ap (option_map (λ (x : Answered). x.frame))
    (none_in (listed c (groups_of c a) (groups_of c b) (records_of c a) (records_of c b))
    (λ k. none_at c s.sent k (groups_of c a) (groups_of c b) (record_at k (records_of c a))
    (record_at k (records_of c b))
    (λ x g e is. stream_there known c inputs n from fates plan types few honest k x g e is)
    (λ x g e is. stream_there known c inputs n later others plan types few also k x g e is))
    0 (max (above_all (records_of c a)) (above_all (records_of c b))))
