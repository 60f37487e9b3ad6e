-- The frames of an honest stream, with a PLP replaced, are those of the run with the other input, of a whole stream all
-- of them; and what comes of them if they are sent again.
use Rattle.std.proofs.Common.{inl, inr, ◌≡◌, ℕ, ◌%◌, ◌<◌, ◌==◌, ◌&&◌, Bool, true, false, List, [], ◌∷◌, map, find}
use Rattle.std.proofs.Common.{length, None, refl, ap, ap₂, ◌∙◌, arith, zero, suc, ◌+◌, ◌-◌, ◌≤◌, drop, Option, Some}
use Rattle.std.proofs.Common.{sym, replicate, eq-eqb}
use Rattle.std.specs.Prelude.{if◌then◌else◌}
use Rattle.std.specs.List.{filter, range_with_len, items_where_true, AllByRecursion, list_all}
use Rattle.plp_config.specs.Capacity.{IsPlan}
use Rattle.plp_config.specs.declared.config.Config.{Config}
use Rattle.frame_groups.specs.Modulated.{FrameRecord, Numbered}
use Rattle.frame_groups.specs.Modulated.Content.{Muted}
use Rattle.frame_groups.specs.Tests.{rules}
use Rattle.record_laws.specs.Records.{record_numbers, numbers_from, record_of}
use Rattle.site_frame.specs.declared.reading.RecordView.{RecordView}
use Rattle.modulator.specs.StandsFor.{records_due}
use Rattle.stream_laws.specs.Remade.{NumberedView, numbered, remade_packets, RiseFrom, Rise}
use Rattle.stream_laws.specs.SentPackets.{Sent, frame_packets, frame_group}
use Rattle.stream_laws.specs.UnitLaws.{SurvivalLength, HonestRecords}
use Rattle.stream_laws.specs.Streams.{Stream, IsStream, stream_survival, Honest}
use Rattle.stream_laws.specs.Survivors.{is_whole, sent_content, sent_record, survivor_records, end_of, carries}
use Rattle.stream_laws.specs.FrameLaws.{SentAreFrames, FramesAreStream, TestsMeet, WrittenIsFrame, KeptIsHonest}
use Rattle.stream_laws.specs.FrameLaws.{WholeArrives, WholeComes}
use Rattle.stream_laws.specs.SentFrames.{run_length, run_stream, stream_bytes, sent_frames, all_kept}
use Rattle.stream_laws.specs.Types.{TypesFit}
use Rattle.stream_laws.proofs.FrameRecordLemmas.{last_below, none_altered, each_kept}
use Rattle.stream_laws.specs.Again.{run_frame, RunSentAgain}
use Rattle.region_swap.specs.Swapped.{frame_in, frames_in, swapped}
use Rattle.network_laws.specs.Region.{with_input, FrameIsReplaced, RegionIsOfRun, region_frames, whole_numbers}
use Rattle.network_laws.specs.Region.{WholeIsReplaced, RegionComesBack}
use Rattle.feed_merge.proofs.PickLemmas.{numbers_below}
use Rattle.std.proofs.lemmas.List.FromFn.{length-map-range_with_len}
use Rattle.plp_config.specs.Emission.{emission}
use Rattle.plp_config.specs.Rules.Rule.{SuperframeLength}
use Rattle.t2mi_stream.specs.Pipe.{pipe}
use Rattle.t2mi_stream.specs.Received.{Fate}
use Rattle.record_laws.specs.Frames.{frame_of}
use Rattle.site_frame.specs.declared.reading.RecordView.TheVariants.{Muted}
use Rattle.gateway_core.specs.Packets.{front_packets}
use Rattle.std.proofs.lemmas.Bool.{cases_Bool, cases_eq, cond_both, cond-true, ne_eqb, and_parts, eqb-true, eq-eqb}
use Rattle.std.proofs.Math.Nat.{mod-eq_of_lt}
use Rattle.std.proofs.lemmas.List.{length-replicate}
use Rattle.plp_config.specs.declared.moment.TheConstants.{MOST_FRAMES}
use Rattle.frame_groups.specs.Begun.{packets_at}
use Rattle.stream_laws.specs.Carrying.{IsWritten}
use Rattle.stream_laws.specs.DamageLaws.{IsMet}
use Rattle.stream_laws.specs.Coming.{IsWrittenFrame, RemadeComesBack, RemadeArrives}
use Rattle.stream_laws.proofs.ArriveLemmas.{all_left}
use Rattle.network_laws.proofs.MergeLemmas.{first_number, comes}
use Rattle.common_plp.proofs.PlaceLemmas.{found_passes}

-- ---- the frames of the records that must come

module _ (written : WrittenIsFrame) (c : Config) (inputs : ℕ → List (List ℕ)) (n : ℕ) (plan : IsPlan c)
    (types : TypesFit c) (survival : List Bool) where
  abbrev sent : List Sent
  sent = sent_frames c inputs n

  abbrev whole : ℕ → Bool
  whole = is_whole c sent survival

  one_in : (k : ℕ) → k < n → frame_in c k (sent_content c sent survival k) ≡ (if whole k then run_frame
      c inputs k ∷ [] else [])
  one_in k l = elim (cases_Bool (whole k)) [
    | inl e ↦ rw e (ap (λ (v : RecordView). numbered k v ∷ []) (written c inputs n k plan types l))
    | inr e ↦ rw e refl
  ]

  pub frames_of : (numbers : List ℕ) → AllByRecursion (λ k. k < n) numbers
      → frames_in c (map (sent_record c sent survival) numbers) ≡ map (run_frame c inputs) (filter whole numbers)
  frames_of [] h = refl
  frames_of (k ∷ numbers) h = elim (cases_Bool (whole k)) [
    | inl e ↦ rw (one_in k h.0, frames_of numbers h.1, e) refl
    | inr e ↦ rw (one_in k h.0, frames_of numbers h.1, e) refl
  ]

-- with the PLP replaced
all_replaced : FrameIsReplaced → (c : Config) (plp : ℕ) (inputs : ℕ → List (List ℕ)) (input : List (List ℕ))
    → IsPlan c → TypesFit c → plp < length c.plps → (numbers : List ℕ)
    → swapped c plp input (map (run_frame c inputs) numbers) ≡ map (run_frame c (with_input inputs plp input)) numbers
all_replaced law c plp inputs input plan types inside [] = refl
all_replaced law c plp inputs input plan types inside (k ∷ numbers) =
    rw (law c plp inputs input k plan types inside, all_replaced law c plp inputs input plan types inside numbers)

pub region_is_of_run : FrameIsReplaced → SentAreFrames → FramesAreStream → TestsMeet → WrittenIsFrame
    → SurvivalLength → HonestRecords → RegionIsOfRun
region_is_of_run law are stream meet written len records c plp inputs input from fates plan types inside l honest =
    let n : ℕ = run_length c inputs in
    let s : Stream = run_stream c inputs in
    let is : IsStream s = stream c inputs n plan types.ids l in
    let survival : List Bool = stream_survival s from fates in
    let whole : ℕ → Bool = is_whole c s.sent survival in
    let end : ℕ = end_of (items_where_true survival s.sent) in
    let below = numbers_below n end (find (λ k. whole k && (k % c.frames == 0)) (range_with_len 0 end))
    (last_below n s.sent survival None (omega arith) (are c inputs n is.some).below) in
    let due : records_due c true (stream_bytes s from fates) ≡ survivor_records c s.sent survival =
    records (rules c) s from fates refl is honest (meet c inputs n survival plan types l (len s from fates is)) in
    ap (λ (xs : List FrameRecord). swapped c plp input (frames_in c xs)) due
    ∙ ap (swapped c plp input) (frames_of written c inputs n plan types survival (record_numbers c whole end) below)
    ∙ all_replaced law c plp inputs input plan types inside (filter whole (record_numbers c whole end))

-- ---- records that are all frames

abbrev first_of : RecordView → List RecordView → RecordView
first_of v [] = v
first_of v (x ∷ xs) = x

abbrev behind_first : List RecordView → List RecordView
behind_first [] = []
behind_first (x ∷ xs) = xs

module _ (c : Config) (inputs : ℕ → List (List ℕ)) (whole : ℕ → Bool) where
  is_frame : (k : ℕ) → record_of c inputs whole k ≡ frame_of c inputs k → whole k ≡ true
  is_frame k e = go (whole k) e
    where
      go : (t : Bool) → (if t then frame_of c inputs k else Muted (emission c k)) ≡ frame_of c inputs k → t ≡ true
      go true e = refl
      go false e = absurd (cc)

  all_whole : (k a : ℕ) → map (record_of c inputs whole) (range_with_len a k) ≡ map (frame_of c inputs)
      (range_with_len a k)
      → filter whole (range_with_len a k) ≡ range_with_len a k
  all_whole zero a e = refl
  all_whole (suc k) a e =
      let here = is_frame a (ap (first_of (Muted (emission c a))) e) in
      let behind = all_whole k (a + 1) (ap behind_first e) in
      ap (λ (t : Bool). if t then a ∷ filter whole (range_with_len (a + 1) k) else filter whole
      (range_with_len (a + 1) k)) here
      ∙ ap (λ (l : List ℕ). a ∷ l) behind

  from_some : (n end first : ℕ) → end ≤ n → end - first ≡ n
      → map (record_of c inputs whole) (range_with_len first (end - first)) ≡ map (frame_of c inputs)
      (range_with_len 0 n)
      → filter whole (range_with_len first (end - first)) ≡ range_with_len 0 n
  from_some zero end first l count e = ap (λ (k : ℕ). filter whole (range_with_len first k)) count
  from_some (suc k) end first l count e =
      let none : first ≡ 0 = omega arith in
      let is : range_with_len first (end - first) ≡ range_with_len 0 (suc k) = ap₂ (λ (x y : ℕ). range_with_len x y)
      none count in
      ap (filter whole) is ∙ all_whole (suc k) 0 (sym (ap (map (record_of c inputs whole)) is) ∙ e)

  -- So they are all frames of a run, if they are as many.
  pub whole_from : (n end : ℕ) (first : Option ℕ) → end ≤ n
      → map (record_of c inputs whole) (numbers_from end first) ≡ map (frame_of c inputs) (range_with_len 0 n)
      → filter whole (numbers_from end first) ≡ range_with_len 0 n
  whole_from n end None l e =
      let none = ap length e in
      let zero_n : 0 ≡ n = omega (arith, length-map-range_with_len (frame_of c inputs) 0 n) in
      ap (range_with_len 0) zero_n
  whole_from n end (Some first) l e =
      let many = ap length e in
      let own = length-map-range_with_len (record_of c inputs whole) first (end - first) in
      let count : end - first ≡ n = omega (arith, length-map-range_with_len (frame_of c inputs) 0 n) in
      from_some n end first l count e

pub whole_is_replaced : RegionIsOfRun → SentAreFrames → KeptIsHonest → WholeArrives → WholeComes → RunSentAgain
    → WholeIsReplaced
whole_is_replaced region are kept arrives comes again c plp inputs input plan types inside l same =
    let n : ℕ = run_length c inputs in
    let s : Stream = run_stream c inputs in
    let new : ℕ → List (List ℕ) = with_input inputs plp input in
    let count : ℕ = length (drop 0 (pipe c.pid s.packets)) in
    let fates : List Fate = all_kept s 0 in
    let survival : List Bool = stream_survival s 0 fates in
    let whole : ℕ → Bool = is_whole c s.sent survival in
    let end : ℕ = end_of (items_where_true survival s.sent) in
    let honest : Honest s 0 fates = kept c inputs n 0 fates plan types.ids l (none_altered count) (each_kept count) in
    let frames : (2 ≤ c.frames) × (c.frames ≤ 255) = plan.rules SuperframeLength in
    let low = last_below n s.sent survival None (omega arith) (are c inputs n (omega arith)).below in
    let numbers : whole_numbers c inputs 0 fates ≡ range_with_len 0 n =
    whole_from c inputs whole n end (find (λ k. whole k && (k % c.frames == 0)) (range_with_len 0 end))
    low (comes c inputs plan types.ids l) in
    ap (λ (bytes : List ℕ). remade_packets c (region_frames c plp input bytes)) (arrives c inputs)
    ∙ ap (remade_packets c)
    (region c plp inputs input 0 fates plan types inside l honest ∙ ap (map (run_frame c new)) numbers)
    ∙ again c new n plan
    ∙ ap (front_packets c new) (sym same)

-- ---- a frame of a run is one that a modulator writes

each_whole : (c : Config) (sent : List Sent) (n : ℕ) → is_whole c sent (replicate (length sent) true) n ≡ true
each_whole c [] n = refl
each_whole c (s ∷ sent) n =
    cond_both {A = List (Sent × Bool)} (carries c n s) _ _ (λ l. list_all (λ (p : Sent × Bool). p.1) l ≡ true)
    (λ t. each_whole c sent n) (λ t. each_whole c sent n)

-- the groups of so many frames, from one on
abbrev past_of : Config → List Sent → ℕ → ℕ → List Numbered
past_of c sent a k = map (λ b. record { number = b; group = frame_group c.frames sent b }) (range_with_len a k)

at_past : (c : Config) (sent : List Sent) (k a b : ℕ) → a ≤ b → b < a + k
    → packets_at (past_of c sent a k) b ≡ frame_packets b sent
at_past c sent zero a b le lt = absurd (omega arith)
at_past c sent (suc k) a b le lt =
    elim (cases_eq a b) [
      | inl same ↦ cond-true (a == b) _ _ (eq-eqb a b same) ∙ ap (λ (n : ℕ). frame_packets n sent) same
      | inr differ ↦ rw (ne_eqb a b differ, at_past c sent k (a + 1) b (omega arith) (omega arith))
    ]

none_past : (c : Config) (sent : List Sent) (k a b : ℕ) → a + k ≤ b → packets_at (past_of c sent a k) b ≡ []
none_past c sent zero a b le = refl
none_past c sent (suc k) a b le =
    rw (ne_eqb a b (λ e. absurd (omega arith)), none_past c sent k (a + 1) b (omega arith))

module _ (are : SentAreFrames) (meet : TestsMeet) (written : WrittenIsFrame) (c : Config) (inputs : ℕ
    → List (List ℕ)) (plan : IsPlan c)
    (types : TypesFit c) where
  some_frames : 0 < c.frames
  some_frames = let r : (2 ≤ c.frames) × (c.frames ≤ 255) = plan.rules SuperframeLength in omega arith

  one_written : (n : ℕ) → n < MOST_FRAMES → IsWritten c n (frame_of c inputs n)
  one_written n l =
      let sent : List Sent = sent_frames c inputs (n + 1) in
      let survival : List Bool = replicate (length sent) true in
      let past : List Numbered = past_of c sent 0 n in
      let frames = are c inputs (n + 1) some_frames in
      let met : IsMet c.frames 0 n (items_where_true survival sent) past =
      record {
        before = omega arith;
        begins = mod-eq_of_lt some_frames;
        groups = record {
          there = λ b le lt. at_past c sent n 0 b le (omega arith) ∙ ap (frame_packets b) (sym (all_left sent));
          none = λ b le. none_past c sent n 0 b (omega arith);
        };
        some = rw (all_left sent) (frames.some n (omega arith));
      } in
      record {
        packets = frame_packets n sent;
        past = past;
        pass = (meet c inputs (n + 1) survival plan types (omega arith)
            (length-replicate (length sent) true)).passes 0 n past (omega arith) met (each_whole c sent n);
        is = sym (written c inputs (n + 1) n plan types (omega arith));
      }

  all_written : (numbers : List ℕ) → AllByRecursion (λ k. k < MOST_FRAMES) numbers
      → AllByRecursion (IsWrittenFrame c) (map (run_frame c inputs) numbers)
  all_written [] h = tt
  all_written (k ∷ numbers) h = ((one_written k h.0, h.0), all_written numbers h.1)

-- ---- numbers that are kept of a range

all_filter : (P : ℕ → Type 0) (test : ℕ → Bool) (xs : List ℕ) → AllByRecursion P xs → AllByRecursion P (filter test xs)
all_filter P test [] h = tt
all_filter P test (x ∷ xs) h =
    cond_both {A = List ℕ} (test x) _ _ (AllByRecursion P) (λ t. (h.0, all_filter P test xs h.1))
    (λ t. all_filter P test xs h.1)

all_small : (n : ℕ) (xs : List ℕ) → n ≤ MOST_FRAMES → AllByRecursion (λ k. k < n) xs
    → AllByRecursion (λ k. k < MOST_FRAMES) xs
all_small n [] l h = tt
all_small n (x ∷ xs) l h = (omega arith, all_small n xs l h.1)

module _ (c : Config) (inputs : ℕ → List (List ℕ)) (whole : ℕ → Bool) where
  abbrev frames_in_range : ℕ → ℕ → List NumberedView
  frames_in_range a k = map (run_frame c inputs) (filter whole (range_with_len a k))

  rise_from : (k a m : ℕ) → m < a → RiseFrom m (frames_in_range a k)
  rise_from zero a m l = tt
  rise_from (suc k) a m l = elim (cases_Bool (whole a)) [
    | inl e ↦ rw e (l, rise_from k (a + 1) a (omega arith))
    | inr e ↦ rw e (rise_from k (a + 1) m (omega arith))
  ]

  rise : (k a : ℕ) → Rise (frames_in_range a k)
  rise zero a = tt
  rise (suc k) a = elim (cases_Bool (whole a)) [
    | inl e ↦ rw e (rise_from k (a + 1) a (omega arith))
    | inr e ↦ rw e (rise k (a + 1))
  ]

  pub all_rise : (end : ℕ) (first : Option ℕ) → Rise (map (run_frame c inputs) (filter whole (numbers_from end first)))
  all_rise end None = tt
  all_rise end (Some first) = rise (end - first) first

-- ---- the first begins a superframe

module _ (c : Config) (inputs : ℕ → List (List ℕ)) (whole : ℕ → Bool) (some : 0 < c.frames) where
  abbrev begins : ℕ → Bool
  begins n = whole n && (n % c.frames == 0)

  from_first : (k first : ℕ) → begins first ≡ true
      → first_number (map (run_frame c inputs) (filter whole (range_with_len first k))) % c.frames ≡ 0
  from_first zero first t = mod-eq_of_lt some
  from_first (suc k) first t =
      let p = and_parts (whole first) (first % c.frames == 0) t in
      rw p.0 (eqb-true (first % c.frames) 0 p.1)

  pub begins_well : (end : ℕ) → first_number (map (run_frame c inputs) (filter whole (record_numbers c whole end)))
      % c.frames ≡ 0
  begins_well end = go (find begins (range_with_len 0 end)) refl
    where
      go : (o : Option ℕ) → find begins (range_with_len 0 end) ≡ o
          → first_number (map (run_frame c inputs) (filter whole (numbers_from end o))) % c.frames ≡ 0
      go None e = mod-eq_of_lt some
      go (Some first) e = from_first (end - first) first (found_passes begins 0 end first e).0

-- ---- what comes of them

pub region_comes_back : SentAreFrames → TestsMeet → WrittenIsFrame → RemadeArrives → RemadeComesBack → RegionComesBack
region_comes_back are meet written arrive back c plp inputs input from fates plan types inside l honest spaced =
    let n : ℕ = run_length c inputs in
    let s : Stream = run_stream c inputs in
    let new : ℕ → List (List ℕ) = with_input inputs plp input in
    let survival : List Bool = stream_survival s from fates in
    let whole : ℕ → Bool = is_whole c s.sent survival in
    let end : ℕ = end_of (items_where_true survival s.sent) in
    let first : Option ℕ = find (λ k. whole k && (k % c.frames == 0)) (range_with_len 0 end) in
    let r : (2 ≤ c.frames) × (c.frames ≤ 255) = plan.rules SuperframeLength in
    let some : 0 < c.frames = omega arith in
    let below = numbers_below n end first (last_below n s.sent survival None (omega arith)
    (are c inputs n some).below) in
    let small = all_filter (λ k. k < MOST_FRAMES) whole (record_numbers c whole end)
    (all_small n (record_numbers c whole end) l below) in
    comes back arrive c plan types.ids (map (run_frame c new) (filter whole (record_numbers c whole end)))
    (all_written are meet written c new plan types (filter whole (record_numbers c whole end)) small)
    (all_rise c new whole end first) spaced (begins_well c new whole some end)
