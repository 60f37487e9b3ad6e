-- How a run of a gateway ends, by the bytes of its files.
use Rattle.std.proofs.Common.{◌≡◌, ◌≢◌, ℕ, ◌+◌, ◌-◌, ◌*◌, ◌/◌, ◌<◌, ◌≤◌, true, false, List, [], ◌++◌, length, refl, ap}
use Rattle.std.proofs.Common.{sym, subst, ◌∙◌, arith, append_assoc, length-append}
use Rattle.std.specs.Prelude.{slice_index}
use Rattle.std.proofs.Math.Nat.{div-mul-le_self}
use Rattle.std.proofs.lemmas.List.{nil_from_length}
use Rattle.std.proofs.lemmas.Nat.{le-div}
use Rattle.file_run.specs.Reading.{longest_file}
use Rattle.plp_config.specs.SlotTime.{slots_by}
use Rattle.plp_config.specs.declared.config.Config.{Config}
use Rattle.ts_packet.specs.TsFile.{packets_in, joined}
use Rattle.ts_packet.specs.declared.sizes.TheConstants.{SIZE}
use Rattle.t2mi_stream.specs.Complete.{complete_units}
use Rattle.file_run.specs.Events as run
use Rattle.file_run.specs.FileRun.{AreFed}
use Rattle.file_run.specs.Steps.{Needs, FallsShort}
use Rattle.file_run.specs.Work.{IsRightAtEnd, AreWithin, DoesWork}
use Rattle.file_run.specs.declared.machine.Step.{Step}
use Rattle.file_run.specs.declared.machine.Step.TheVariants.{Give, End}
use Rattle.file_run.proofs.StandsLemmas.{fed_since}
use Rattle.file_run.proofs.WorkLemmas.{are_whole}
use Rattle.gateway_core.specs.Events.{offered, begun, finished}
use Rattle.gateway_core.specs.Laws.{UnitsLaw, FrontsGrow, WaitsThreeFrames}
use Rattle.gateway_core.specs.Packets.{front_packets}
use Rattle.gateway_core.specs.StandsFor.{Status}
use Rattle.common_plp.specs.Inputs.{place_of, input_count, streams_by}
use Rattle.common_plp.specs.Sharing.{Sharing}
use Rattle.gateway_run.specs.GatewayRun.{inputs_of, frames_of, units_of, MeetsNone, ReadsNoFurther, HasTooManyFrames}
use Rattle.gateway_run.specs.GatewayRun.{RunsAll, StopsAtBad, StopsAtLate, StopsReading, StopsWriting, CompleteBefore}
use Rattle.gateway_run.specs.GatewayRun.{gateway_work}
use Rattle.gateway_run.specs.Holds.{NoTails, HasGiven, IsOneTooMany, MetBad, IsIn, Holds}
use Rattle.gateway_run.specs.Inputs.{IsBefore}
use Rattle.gateway_run.specs.Phases.{step_by, reach_by, frame_read, ending_of}
use Rattle.gateway_run.specs.Ready.{IsReady, Becomes}
use Rattle.gateway_run.specs.Seen.{Seen}
use Rattle.gateway_run.specs.declared.stop.GatewayStop.TheVariants.{Bad, TooManyFrames}
use Rattle.gateway_run.specs.declared.place.Phase.{Phase}
use Rattle.gateway_run.specs.declared.place.Phase.TheVariants as phase
use Rattle.gateway_run.specs.declared.place.Place.{Place}
use Rattle.gateway_run.specs.declared.stop.GatewayRan.{GatewayRan}
use Rattle.gateway_run.proofs.AheadLemmas.{reads_ahead}
use Rattle.gateway_run.proofs.MachineLemmas.{offered_length}
use Rattle.gateway_run.proofs.OrderLemmas.{earlier_still}
use Rattle.gateway_run.proofs.OutputLemmas.{continue_files, none_before, none_here, gave_all, gave_complete}
use Rattle.gateway_run.proofs.OutputLemmas.{none_whole, gave_since, gave_front, meets_bad, offered_few}
use Rattle.gateway_run.proofs.PhaseLemmas.{falls_short_at, read_early, read_few}
use Rattle.gateway_run.proofs.WaitingLemmas.{waits, ready_for}

needs_at : (wants at : ℕ) (p : Phase) (input count : ℕ) → Needs (step_by wants at p) input count → (p ≡ phase.Wants)
    × (at ≡ input)
    × (count ≤ SIZE)
needs_at wants at phase.Wants input count w = (refl, w.0, w.1)
needs_at wants at phase.Begins input count w = absurd w
needs_at wants at phase.Gives input count w = absurd w
needs_at wants at phase.Rests input count w = absurd w
needs_at wants at phase.Done input count w = absurd w
needs_at wants at (phase.Stopped why) input count w = absurd w

-- Whole packets are never as many bytes as no file may have.
no_multiple : (fed packets place : ℕ) → fed ≡ SIZE * packets → place ≡ longest_file → place - fed ≤ SIZE
    → place < fed + SIZE
no_multiple fed packets place whole long near = omega (arith, whole, long, near)

-- and a place in the packet behind some whole ones tells how many these are
whole_slots : (fed packets place : ℕ) → fed ≡ SIZE * packets → fed ≤ place → place < fed + SIZE → place / SIZE ≡ packets
whole_slots fed packets place whole least near =
    let low : packets ≤ place / SIZE = le-div packets place SIZE (omega arith) (omega (arith, whole, least)) in
    let part : place / SIZE * SIZE ≤ place = div-mul-le_self place SIZE in
    omega (arith, low, part, whole, near)

-- ---- a gateway of which so much is known, and of whose files so much was read

module _ {way : Sharing} {c : Config} {s : Seen} {t : Status} {place : Place} {ran : GatewayRan}
    (ready : IsReady way c s t place ran) (files : ℕ → List ℕ) (places : List ℕ) (events : List run.Event)
    (are : AreFed (input_count way c) files places events)
    (further : ReadsNoFurther way c places (frame_read place.phase ran.frames))
    (h : Holds way c events s.stands place ran) where
  further_in : (p : Phase) → place.phase ≡ p → ReadsNoFurther way c places (frame_read p ran.frames)
  further_in p e = subst (λ (p : Phase). ReadsNoFurther way c places (frame_read p ran.frames)) e further

  runs_all : place.phase ≡ phase.Done → length places ≡ input_count way c
      → RunsAll way c files ran places (run.gave events)
  runs_all e all =
      let a = gave_all h files places are e in
      record {
        ends = are_whole (input_count way c) files places events all are a.ended;
        whole = a.whole;
        early = ready.counted.early;
        frames_are = a.frames;
        units_are = a.count;
        output = a.units;
      }

  stops_at_bad : UnitsLaw → (input packet : ℕ) → place.phase ≡ phase.Stopped (Bad input packet)
      → StopsAtBad way c files input packet places (run.gave events)
  stops_at_bad units input packet e =
      let m : MetBad way c h.events h.tails input packet = subst (λ (p : Phase). IsIn way c h.events h.tails p)
      e h.is_in in
      record {
        frame = ran.frames;
        early = ready.counted.early;
        no_further = further_in (phase.Stopped (Bad input packet)) e;
        meets = meets_bad h files places are input packet e;
        output = gave_complete h files places are units m.complete;
      }

  too_many_frames : place.phase ≡ phase.Stopped TooManyFrames → HasTooManyFrames way c files
  too_many_frames e =
      let m : IsOneTooMany way c h.events h.tails = subst (λ (p : Phase). IsIn way c h.events h.tails p) e h.is_in in
      let none : MeetsNone way c files ran.frames =
      λ input lt. none_here h files places are input lt (m.all input lt) in (
        subst (λ (n : ℕ). MeetsNone way c files n) (h.frames ∙ m.frame) none,
        subst (λ (n : ℕ). n < frames_of way c files) m.frame
            (m.more (inputs_of files) (continue_files h files places are)),
      )

  stops_at_late : UnitsLaw → FrontsGrow → place.phase ≡ phase.Stopped TooManyFrames
      → StopsAtLate way c files places (run.gave events)
  stops_at_late units grow e =
      let m : IsOneTooMany way c h.events h.tails = subst (λ (p : Phase). IsIn way c h.events h.tails p) e h.is_in in
      let most = h.frames ∙ m.frame in
      record {
        no_further = subst (ReadsNoFurther way c places) most (further_in (phase.Stopped TooManyFrames) e);
        begins = gave_front h files places are grow;
        output = subst (λ (n : ℕ). CompleteBefore way c files n (run.gave events)) most
            (gave_complete h files places are units m.complete);
      }

  ends_in : UnitsLaw → FrontsGrow → (p : Phase) → place.phase ≡ p → step_by (s.wants place.input) place.input p ≡ End
      → length places ≡ input_count way c → IsRightAtEnd (gateway_work way c) files places (run.gave events)
      (ending_of p ran)
  ends_in units grow phase.Wants e end all = absurd (let z : step_by (s.wants place.input) place.input
      phase.Wants ≡ End = end in cc)
  ends_in units grow phase.Begins e end all = absurd (let z : Give ≡ End = end in cc)
  ends_in units grow phase.Gives e end all = absurd (let z : Give ≡ End = end in cc)
  ends_in units grow phase.Rests e end all = absurd (let z : Give ≡ End = end in cc)
  ends_in units grow phase.Done e end all = runs_all e all
  ends_in units grow (phase.Stopped (Bad input packet)) e end all = stops_at_bad units input packet e
  ends_in units grow (phase.Stopped TooManyFrames) e end all =
      (too_many_frames e, stops_at_late units grow e)

  -- Of the input that is looked at no whole packet waits.
  stops_here : UnitsLaw → FrontsGrow → place.phase ≡ phase.Wants
      → slice_index places place.input < length (run.fed place.input events) + SIZE
      → StopsReading way c files place.input places (run.gave events)
  stops_here units grow e short =
      let w = waits way c s t place ran ready events e h in
      let inside = w.first.inside in
      let plp : ℕ = place_of way c place.input in
      let size = offered_length _ _ _ _ _ (w.none place.input) (h.inputs.each place.input inside) in
      let slots = ap (λ (f : ℕ). slots_by c plp (f * c.ticks)) h.frames in
      let less = w.first.less in
      let slot = whole_slots (length (run.fed place.input events)) (length (offered plp h.events))
      (slice_index places place.input) size
      (are place.input inside).ahead short in
      record {
        frame = ran.frames;
        early = ready.counted.early;
        wants = omega (arith, size, slots, less, short);
        no_further = further_in phase.Wants e;
        read = none_whole h files places are place.input inside (w.none place.input)
            short;
        before = (
          none_before h files places are,
          λ other lt before.
              none_here h files places are other lt (w.first.below other lt
              (earlier_still way c other (length (offered (place_of way c other) h.events))
              (length (packets_in (files other)))
              place.input (length (offered plp h.events)) (offered_few h files places are other lt)
              (subst (λ (n : ℕ). IsBefore way c other (length (packets_in (files other))) place.input n) slot before))),
        );
        begins = gave_front h files places are grow;
        output = gave_complete h files places are units w.complete;
      }

  too_long : UnitsLaw → FrontsGrow → (input : ℕ) → slice_index places input ≡ longest_file
      → Needs (step_by (s.wants place.input) place.input place.phase) input
      (slice_index places input - length (run.fed input events))
      → StopsReading way c files input places (run.gave events)
  too_long units grow input long wants =
      let n = needs_at (s.wants place.input) place.input place.phase input _ wants in
      subst (λ (k : ℕ). slice_index places k ≡ longest_file → slice_index places k - length (run.fed k events) ≤ SIZE
      → StopsReading way c files k places (run.gave events)) n.1
      (λ most near.
      let w = waits way c s t place ran ready events n.0 h in
      let size = offered_length _ _ _ _ _ (w.none place.input) (h.inputs.each place.input w.first.inside) in
      stops_here units grow n.0 (no_multiple (length (run.fed place.input events))
      (length (offered (place_of way c place.input) h.events))
      (slice_index places place.input) size most near)) long n.2

  unread : UnitsLaw → FrontsGrow → (input : ℕ)
      → FallsShort (step_by (s.wants place.input) place.input place.phase) input
      (slice_index places input - length (run.fed input events))
      → StopsReading way c files input places (run.gave events)
  unread units grow input wants =
      let n = falls_short_at (s.wants place.input) place.input place.phase input _ wants in
      subst (λ (k : ℕ). slice_index places k - length (run.fed k events) < SIZE
      → StopsReading way c files k places (run.gave events)) n.1
      (λ near. stops_here units grow n.0 (omega (arith, near))) n.2

  -- What is known while units are given: the complete units of some frames were given, of which none met a bad packet.
  record IsKnown (frame : ℕ) : Type 0 where
    given_all : HasGiven way c h.events frame
    none : MeetsNone way c files frame

  known : (p : Phase) → place.phase ≡ p → step_by (s.wants place.input) place.input p ≡ Give
      → IsKnown (frame_read p ran.frames)
  known phase.Wants e gives = absurd (let z : step_by (s.wants place.input) place.input phase.Wants ≡ Give =
      gives in cc)
  known phase.Begins e gives =
      let b = ready_for way c s t place ran ready events e h in
      let f = h.frames in
      record {
        given_all = record {
          begun_all = omega (arith, f);
          units = λ inputs k. let w = b.complete inputs k in let q =
              ap (λ (j : ℕ). length (complete_units c.pid (front_packets c (streams_by way c inputs) j)))
              f in omega (arith, w, q);
        };
        none = λ input lt. none_here h files places are input lt (b.all input lt);
      }
  known phase.Gives e gives =
      let i : NoTails h.tails × HasGiven way c h.events (begun h.events - 1) =
      subst (λ (p : Phase). IsIn way c h.events h.tails p) e h.is_in in
      record {
        given_all = subst (λ (n : ℕ). HasGiven way c h.events (n - 1)) (sym h.frames) i.1;
        none = none_before h files places are;
      }
  known phase.Rests e gives =
      let i : NoTails h.tails × HasGiven way c h.events (begun h.events) × (finished h.events ≡ true) =
      subst (λ (p : Phase). IsIn way c h.events h.tails p) e h.is_in in
      let last = h.time.last i.2 in
      record {
        given_all = subst (λ (n : ℕ). HasGiven way c h.events n) (sym h.frames) i.1;
        none = λ input lt. none_here h files places are input lt
            (λ on. absurd (let z : true ≡ false = sym (last.ended input lt) ∙ on in cc));
      }
  known phase.Done e gives = absurd (let z : End ≡ Give = gives in cc)
  known (phase.Stopped why) e gives = absurd (let z : End ≡ Give = gives in cc)

  stops_writing : UnitsLaw → WaitsThreeFrames → step_by (s.wants place.input) place.input place.phase ≡ Give
      → (bytes front more : List ℕ) → bytes ≡ run.gave events ++ front → more ≢ []
      → joined (units_of way c files) ≡ bytes ++ more
      → StopsWriting way c files places bytes
  stops_writing units three gives bytes front more is some begins =
      let frame : ℕ = frame_read place.phase ran.frames in
      let k = known place.phase refl gives in
      let g = gave_since h files places are units frame k.given_all in
      let all : bytes ≡ joined (complete_units c.pid (front_packets c (streams_by way c (inputs_of files)) frame))
      ++ (g.0 ++ front) =
      is ∙ ap (λ (l : List ℕ). l ++ front) g.1
      ∙ append_assoc (joined (complete_units c.pid (front_packets c (streams_by way c (inputs_of files)) frame)))
      g.0 front in
      let few = h.time.few (inputs_of files) (continue_files h files places are) in
      let frames = h.frames in
      let within : frame ≤ frames_of way c files = omega (arith, few, frames, read_few place.phase ran.frames) in
      record {
        frame = frame;
        early = read_early place.phase ran.frames ready.counted.early;
        no_further = further;
        before = k.none;
        some = record { more = more; some = some; begins = begins; since = g.0 ++ front; complete = all };
        ahead = reads_ahead way units three c files places bytes (g.0 ++ front) frame h.plan within all further;
      }

-- ---- a machine, by what is seen of its gateway, where it is and what it counted

module _ (way : Sharing) (M : Type 0) (config_of : M → Config) (seen_of : M → Seen) (status_of : M → Status) (at : M
    → Place)
    (ran_of : M → GatewayRan) (ready : (m : M) → IsReady way (config_of m) (seen_of m) (status_of m) (at m) (ran_of m))
    (units : UnitsLaw) (grow : FrontsGrow) (three : WaitsThreeFrames) (c : Config) (inputs : ℕ)
    (count : inputs ≡ input_count way c) where
  abbrev Came : List run.Event → M → Type 0
  Came events m = Becomes way c (config_of m) (seen_of m) (at m) (ran_of m) events

  abbrev next_of : M → Step
  next_of m = step_by ((seen_of m).wants (at m).input) (at m).input (at m).phase

  abbrev reach_of : M → ℕ → ℕ
  reach_of m input = reach_by way (config_of m) (at m).phase (ran_of m).frames input

  ready_at : (m : M) → config_of m ≡ c → IsReady way c (seen_of m) (status_of m) (at m) (ran_of m)
  ready_at m same = subst (λ (k : Config). IsReady way k (seen_of m) (status_of m) (at m) (ran_of m)) same (ready m)

  holds_at : (m : M) (events : List run.Event) → Came events m → Holds way c events (seen_of m).stands (at m) (ran_of m)
  holds_at m events came = subst (λ (k : Config). Holds way k events (seen_of m).stands (at m) (ran_of m)) came.0 came.1

  fed_at : (files : ℕ → List ℕ) (places : List ℕ) (events : List run.Event) → AreFed inputs files places events
      → AreFed (input_count way c) files places events
  fed_at files places events are = subst (λ (n : ℕ). AreFed n files places events) count are

  further_at : (m : M) (places : List ℕ) → config_of m ≡ c → length places ≡ inputs
      → AreWithin inputs places (reach_of m)
      → ReadsNoFurther way c places (frame_read (at m).phase (ran_of m).frames)
  further_at m places same all within input lt =
      subst (λ (k : Config). slice_index places input ≤ reach_by way k (at m).phase (ran_of m).frames input) same
      (within input (omega (arith, lt, all)))

  pub gateway_does : DoesWork (gateway_work way c) inputs reach_of next_of Came (λ m. ending_of (at m).phase (ran_of m))
  gateway_does = record {
    ends = λ files places events now all are within came end.
        ends_in (ready_at now came.0) files places events
        (fed_at files places events are) (further_at now places came.0 all within) (holds_at now events came) units grow
        (at now).phase refl end (all ∙ count);
    too_long = λ files places events now input all are within came lt most wants.
        too_long (ready_at now came.0) files places events
        (fed_at files places events are) (further_at now places came.0 all within) (holds_at now events came)
        units grow input most
        wants;
    unread = λ files places events now input all are within came lt wants.
        unread (ready_at now came.0) files places events
        (fed_at files places events are) (further_at now places came.0 all within) (holds_at now events came)
        units grow input wants;
    unwritten = λ files places events now bytes all are g.
        let fed = fed_at files places events are in
        let f = gave_front (holds_at now (events ++ g.late) g.came_late) files places
        (fed_since (input_count way c) files places events g.late g.only fed) grow in
        stops_writing (ready_at g.mid g.came.0) files places events fed
        (further_at g.mid places g.came.0 all g.within) (holds_at g.mid events g.came) units three g.gives
        bytes g.front (g.more ++ f.0)
        g.is
        (λ z. g.some (nil_from_length g.more (let n = ap length z in let l = length-append g.more f.0 in
        omega (arith, n, l))))
        (f.1 ∙ ap (λ (l : List ℕ). l ++ f.0) g.parts ∙ append_assoc bytes g.more f.0);
  }
