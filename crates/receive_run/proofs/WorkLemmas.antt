-- What a machine does by its file.
use Rattle.std.proofs.Common.{◌≡◌, ◌⊎◌, ℕ, ◌+◌, ◌-◌, ◌<◌, ◌≤◌, Bool, true, inl, inr, List, [], ◌∷◌, ◌++◌, length, take}
use Rattle.std.proofs.Common.{drop, Option, Some, None, refl, ap, sym, subst, ◌∙◌, arith, append_assoc, length-append}
use Rattle.std.specs.Prelude.{slice_index}
use Rattle.std.specs.List.{concat}
use Rattle.std.proofs.Math.Seq.{take-length}
use Rattle.std.proofs.lemmas.List.{nil_from_length, take-append-drop}
use Rattle.std.proofs.lemmas.List.Folds.{concat-append}
use Rattle.std.proofs.lemmas.Option.{same_Some}
use Rattle.terms.proofs.OptionLemmas.{none_some}
use Rattle.plp_config.specs.Rules.{AllRules}
use Rattle.plp_config.specs.declared.config.Config.{Config}
use Rattle.site_frame.specs.Laws.{OneRecord, NoRefusal, OneFrame}
use Rattle.site_frame.specs.RecordFile.{AreRecords, IsOnGrid, EndsWithin, bytes_before}
use Rattle.site_frame.specs.declared.fault.RecordWhy.{RecordWhy}
use Rattle.site_frame.specs.declared.reading.RecordView.{RecordView}
use Rattle.site_frame.proofs.RecordFileLemmas.{records_file, rest_inside, announces_on, begins_on}
use Rattle.site_frame.specs.FeedLaws.{Lacks, TakesOn, LacksWithin, NoneWaits}
use Rattle.site_frame.specs.FeedStandsFor.{coming_of, count_of, came_of, left_of, lacks_at, lacks_of}
use Rattle.site_frame.specs.declared.coming.Coming.{Coming}
use Rattle.site_frame.specs.declared.coming.Coming.TheVariants.{Head, Rest, Whole, Refused, NoRoom, Finished}
use Rattle.common_plp.specs.Groups.{common_of}
use Rattle.plp_receiver.specs.JoinedBack.{MayJoin, JoinedBackWith}
use Rattle.plp_receiver.specs.JointStandsFor.{network_of, plp_of, joins_of, due_of}
use Rattle.plp_receiver.specs.declared.joined_receiver.JoinedReceiver.{JoinedReceiver}
use Rattle.file_run.specs.Events.{Event, fed, has_ended, gave}
use Rattle.file_run.specs.FileRun.{IsFed, AreFed}
use Rattle.file_run.specs.Steps.{FallsShort, Needs}
use Rattle.file_run.specs.Work.{AreWithin, IsRightAtEnd, GaveSome, DoesWork}
use Rattle.file_run.specs.declared.machine.Step.TheVariants.{End}
use Rattle.file_run.proofs.EventLemmas.{gave_more}
use Rattle.file_run.proofs.OneInputLemmas.{whole_file}
use Rattle.file_run.proofs.WorkLemmas.{are_whole}
use Rattle.receive_run.specs.AsMachine.{next_of, reach_of, first_of, ran_by, ending_of, Judged, Given, GavePackets}
use Rattle.receive_run.specs.AsMachine.{Shown, Becomes}
use Rattle.receive_run.specs.NextStep.{next_from, refusal_of}
use Rattle.receive_run.specs.JoinedReceived.{GivesBack, Received}
use Rattle.receive_run.specs.Received.{ran_of, expected_after, RefusesNext}
use Rattle.receive_run.specs.JoinedRun.{HasMet, LacksSome, HasSome, receive_work}
use Rattle.receive_run.specs.declared.machine.ReceiverMachine.{ReceiverMachine}
use Rattle.receive_run.proofs.SameLemmas.{successive_front, same_views}
use Rattle.receive_run.proofs.StepLemmas.{behind_at}
use Rattle.receive_run.proofs.WantedLemmas.{short, needs, some_due, none_due, none_taken, near_left, none_left}

-- ---- what was given

record GaveAll (joins : Option ℕ) (c : Config) (plp first : ℕ) (views : List RecordView) (slots : ℕ)
    (text : List ℕ) : Type 0 where
  packets : List (List ℕ)
  back : GivesBack joins c plp first views packets
  text_is : text ≡ concat packets
  count : slots ≡ length packets

gave_all : (joins : Option ℕ) (c : Config) (plp : ℕ) (v : JoinedReceiver) (first : ℕ) (views : List RecordView)
    (slots : ℕ) (text : List ℕ)
    → due_of v ≡ 0 → Given joins c plp v first views slots text → GaveAll joins c plp first views slots text
gave_all joins c plp v first [] slots text none g = record { packets = []; back = refl; text_is = g.3; count = g.2 }
gave_all joins c plp v first (w ∷ ws) slots text none g =
    let inside = g.inside in
    let due = g.due in
    let all : slots ≡ length g.packets = omega (arith, inside, due, none) in
    record {
      packets = g.packets;
      back = g.back;
      text_is = g.text_is ∙ ap (λ (n : ℕ). concat (take n g.packets)) all ∙ ap concat (take-length g.packets);
      count = all;
    }

-- the slots of a machine are those of its records
ran_same : (c : Config) (plp first : ℕ) (views : List RecordView) (begins : Option ℕ) (slots : ℕ)
    (packets : List (List ℕ))
    → begins ≡ first_of first views → slots ≡ length packets → ran_by c plp begins slots ≡ ran_of c plp
    first views packets
ran_same c plp first views begins slots packets is count = rw (is, count) (go views)
  where
    go : (views : List RecordView) → ran_by c plp (first_of first views) (length packets) ≡ ran_of c
        plp first views packets
    go [] = refl
    go (v ∷ vs) = refl

-- ---- how far was read

-- a machine that wants no more, or whose file has ended, was fed all that was read
all_fed : (file front : List ℕ) (place at left : ℕ) (ended : Bool) → IsFed file place front ended → at ≡ length front
    → place ≤ at + left → (left ≡ 0) ⊎ (ended ≡ true) → place ≤ length front
all_fed file front place at left ended f is near (inl none) = omega (arith, is, near, none)
all_fed file front place at left ended f is near (inr end) =
    let size = ap length f.parts in
    let sum = length-append front f.more in
    let none = ap length (f.end end) in
    let within = f.within in
    omega (arith, size, sum, none, within)

fewer_within : (rest more : List ℕ) (count : ℕ) → EndsWithin rest (length rest) → count ≤ length rest
    → EndsWithin (rest ++ more) count
fewer_within rest more count (inl head) few = inl (omega (arith, head, few))
fewer_within rest more count (inr (len, announces, whole)) few =
    inr (len, announces_on rest more len announces, omega (arith, whole, few))

-- of what is wanted nothing was read
lacks_some : (rest more : List ℕ) (left count : ℕ) → Lacks rest left → 0 < left → count < 1
    → LacksSome (rest ++ more) (length rest + count)
lacks_some rest more left count (inl head) some none = inl (omega (arith, head, some, none))
lacks_some rest more left count (inr b) some none =
    inr (b.len, announces_on rest more b.len b.announces, (let l = b.lacks in omega (arith, l, some, none)))

-- what stands behind the records is refused whatever follows, ends within a record, and no more is wanted
record StandsRefused (c : Config) (expected : Option ℕ) (why : RecordWhy) (left : ℕ) (rest : List ℕ)
    (ended : Bool) : Type 0 where
  refuses : (more : List ℕ) → (ended ≡ true → more ≡ []) → RefusesNext c expected (rest ++ more) why
  within : EndsWithin rest (length rest)
  none : (left ≡ 0) ⊎ (ended ≡ true)

abbrev refused_for : RecordWhy → Coming
refused_for why = Refused why

-- a record came, if something is due, or if records came
given_due : (joins : Option ℕ) (c : Config) (plp : ℕ) (v : JoinedReceiver) (first : ℕ) (views : List RecordView)
    (slots : ℕ)
    (text : List ℕ) → 0 < due_of v → Given joins c plp v first views slots text
    → GavePackets joins c plp v first views slots text
given_due joins c plp v first [] slots text some g = absurd (let z = g.1 in omega (arith, z, some))
given_due joins c plp v first (w ∷ ws) slots text some g = g

given_some : (joins : Option ℕ) (c : Config) (plp : ℕ) (v : JoinedReceiver) (first : ℕ) (before : List RecordView)
    (last : RecordView)
    (slots : ℕ) (text : List ℕ) → Given joins c plp v first (before ++ last ∷ []) slots text
    → GavePackets joins c plp v first (before ++ last ∷ []) slots text
    × ((packets : List (List ℕ)) → JoinedBackWith joins c plp first (before ++ last ∷ []) packets
    → GivesBack joins c plp first (before ++ last ∷ []) packets)
given_some joins c plp v first [] last slots text g = (g, λ packets b. b)
given_some joins c plp v first (w ∷ ws) last slots text g = (g, λ packets b. b)

front_empty : (xs ys : List ℕ) → xs ++ ys ≡ [] → xs ≡ []
front_empty [] ys e = refl
front_empty (x ∷ xs) ys e = absurd (let n = ap length e in omega (arith, n))

-- what is given of packets, and what is left
packets_cut : (packets : List (List ℕ)) (n : ℕ) → concat packets ≡ concat (take n packets) ++ concat (drop n packets)
packets_cut packets n = ap concat (sym (take-append-drop n packets)) ∙ concat-append (take n packets) (drop n packets)

-- ---- a machine

-- nothing may be joined
pub may_none : (c : Config) (plp : ℕ) → MayJoin c plp None
may_none c plp common e = none_some common e

-- the common PLP of the group may, if there is one
pub may_common : (c : Config) (plp : ℕ) (joins : Option ℕ) → joins ≡ common_of c plp → MayJoin c plp joins
may_common c plp joins is common e = sym is ∙ e

-- ---- what was done to a machine by a file

module _ (start now : ReceiverMachine) (files : ℕ → List ℕ) (places : List ℕ) (events : List Event)
    (all : length places ≡ 1) (are : AreFed 1 files places events) (came : Becomes start events now) where
  abbrev joins : Option ℕ
  joins = joins_of start.receiver

  abbrev c : Config
  c = network_of start.receiver

  abbrev plp : ℕ
  plp = plp_of start.receiver

  abbrev s : Shown joins c plp now events
  s = came.shown

  abbrev place : ℕ
  place = slice_index places 0

  abbrev got : List ℕ
  got = fed 0 events

  first : IsFed (files 0) place got (has_ended 0 events)
  first = are 0 (omega arith)

  -- what stands behind the records, in the file
  abbrev rest : List ℕ
  rest = s.feed.rest ++ first.more

  records : AreRecords (files 0) s.views rest
  records = records_file (files 0) got first.more s.feed.rest s.views first.parts s.feed.records

  all_given : due_of now.receiver ≡ 0 → GaveAll joins c plp s.first s.views now.slots (gave events)
  all_given idle = gave_all joins c plp now.receiver s.first s.views now.slots (gave events) idle s.given

  abbrev received : GaveAll joins c plp s.first s.views now.slots (gave events)
      → Received joins c plp s.views (gave events)
  received g = record {
    first = s.first;
    successive = s.successive;
    packets = g.packets;
    back = g.back;
    bytes_are = g.text_is;
  }

  -- how much was read behind the records that were taken
  read_behind : length s.feed.rest + (place - length got) ≡ place - bytes_before (files 0) rest
  read_behind =
      let size = ap length first.parts in
      let sum = length-append got first.more in
      let both = length-append s.feed.rest first.more in
      let inside = rest_inside got s.feed.rest s.views s.feed.records in
      let ahead = first.ahead in
      omega (arith, size, sum, both, inside, ahead)

  -- ---- at its end

  idle_at : next_of now ≡ End → due_of now.receiver ≡ 0
  idle_at end = none_due (due_of now.receiver) now.misplaced (lacks_of now.feed) end

  -- it has read the whole file, if the record of the next frame is not refused
  lacking_none : (p : Coming) → coming_of now.feed ≡ p → next_of now ≡ End → now.misplaced ≡ None
      → lacks_at p now.feed.left ≡ 0
  lacking_none p at end none =
      subst (λ (q : Coming). lacks_at q now.feed.left ≡ 0) at
      (none_taken (due_of now.receiver) (lacks_of now.feed)
      (subst (λ (o : Option RecordWhy). next_from (due_of now.receiver) o (lacks_of now.feed) ≡ End) none end))

  finished : (p : Coming) → coming_of now.feed ≡ p → refusal_of p now.misplaced ≡ None → next_of now ≡ End
      → coming_of now.feed ≡ Finished
  finished Head at none end = absurd (let e = lacking_none Head at end none in let some = (now.feed.lacks at).0 in
      omega (arith, e, some))
  finished Rest at none end = absurd (let e = lacking_none Rest at end none in let some = (now.feed.room at).0 in
      omega (arith, e, some))
  finished Whole at none end =
      absurd (subst (λ (o : Option RecordWhy). Judged c (expected_after s.first s.views) o (coming_of now.feed)
      s.feed.rest) none
      s.judged at)
  finished (Refused why) at none end = none_some why (sym none)
  finished NoRoom at none end = absurd (now.room.coming at)
  finished Finished at none end = at

  -- why the record of the next frame does not come
  abbrev RefusedSo : RecordWhy → Type 0
  RefusedSo why = StandsRefused c (expected_after s.first s.views) why now.feed.left s.feed.rest (has_ended 0 events)

  refused_place : (why : RecordWhy) → now.misplaced ≡ Some why → RefusedSo why
  refused_place why is =
      let judged = subst (λ (o : Option RecordWhy). Judged c (expected_after s.first s.views) o (coming_of now.feed)
      s.feed.rest) is
      s.judged in
      let p = judged.1 in
      let b = behind_at joins c plp now events Whole judged.0 s in
      let lacks = b.1.lacks in
      record {
        refuses = λ more end. inr (p.0, p.1, begins_on s.feed.rest more p.0 p.1 p.2, p.3);
        within = inr (b.1.len, b.1.announces, omega (arith, lacks));
        none = inl (now.feed.whole judged.0);
      }

  refused_so : (why : RecordWhy) (p : Coming) → coming_of now.feed ≡ p → refusal_of p now.misplaced ≡ Some why
      → RefusedSo why
  refused_so why Head at e = refused_place why e
  refused_so why Rest at e = refused_place why e
  refused_so why Whole at e = refused_place why e
  refused_so why (Refused other) at e =
      let b = behind_at joins c plp now events (Refused why) (at ∙ ap refused_for (same_Some other why e)) s in
      record { refuses = λ more end. inl (b.refuses more end); within = b.within; none = b.none }
  refused_so why NoRoom at e = refused_place why e
  refused_so why Finished at e = refused_place why e

  ends_in : next_of now ≡ End → AreWithin 1 places (reach_of now) → (refusal : Option RecordWhy)
      → refusal_of (coming_of now.feed) now.misplaced ≡ refusal
      → IsRightAtEnd (receive_work joins c plp) files places (gave events)
      (ending_of refusal (count_of now.feed) (ran_by c plp now.first now.slots))
  ends_in end within (Some why) is =
      let b = refused_so why (coming_of now.feed) refl is in
      let near = within 0 (omega arith) in
      let left = near_left (due_of now.receiver) (left_of now.feed) in
      let most : place ≤ length got =
      all_fed (files 0) got place (came_of now.feed) (left_of now.feed) (has_ended 0 events) first s.feed.size
      (omega (arith, near, left)) b.none in
      let behind = read_behind in
      record {
        before = record {
          views = s.views;
          rest = rest;
          records = records;
          received = received (all_given (idle_at end));
          number_is = s.feed.number;
          refused = b.refuses first.more first.end;
        };
        within = fewer_within s.feed.rest first.more (place - bytes_before (files 0) rest) b.within
            (omega (arith, behind, most));
      }
  ends_in end within None is =
      let b = behind_at joins c plp now events Finished (finished (coming_of now.feed) refl is end) s in
      let g = all_given (idle_at end) in (
        are_whole 1 files places events all are (λ input lt. let zero : 0 ≡ input = omega (arith, lt) in
            subst (λ (k : ℕ). has_ended k events ≡ true) zero b.1),
        record {
          views = s.views;
          records = subst (λ (l : List ℕ). AreRecords l s.views []) (whole_file (files 0) place got (has_ended 0 events)
              first b.1).0
              (subst (λ (l : List ℕ). AreRecords got s.views l) b.0 s.feed.records);
          received = received g;
          ran_is = ran_same c plp s.first s.views now.first now.slots g.packets s.first_is g.count;
        },
      )

  -- by what the machine holds
  abbrev EndsSo : Config → ℕ → Type 0
  EndsSo d q = IsRightAtEnd (receive_work joins c plp) files places (gave events)
      (ending_of (refusal_of (coming_of now.feed) now.misplaced) (count_of now.feed) (ran_by d q now.first now.slots))

  ends : next_of now ≡ End → AreWithin 1 places (reach_of now) → EndsSo (network_of now.receiver) (plp_of now.receiver)
  ends end within =
      subst (λ (d : Config). EndsSo d (plp_of now.receiver)) (sym came.same.0)
      (subst (EndsSo c) (sym came.same.1) (ends_in end within _ refl))

  -- ---- before

  has_met : (Within : List ℕ → ℕ → Type 0) → due_of now.receiver ≡ 0
      → Within rest (length s.feed.rest + (place - length got))
      → HasMet joins c plp Within place (files 0) (gave events)
  has_met Within idle within = record {
    views = s.views;
    rest = rest;
    records = records;
    received = received (all_given idle);
    within = subst (Within rest) read_behind within;
  }

  -- what is lacking of the record that comes
  lacking : TakesOn → 0 < lacks_of now.feed → Lacks s.feed.rest (lacks_of now.feed)
  lacking takes some = (takes now.feed s.views got (has_ended 0 events) s.feed some).0

  too_long : TakesOn → LacksWithin → (input : ℕ)
      → Needs (next_of now) input (slice_index places input - length (fed input events))
      → HasMet joins c plp EndsWithin place (files 0) (gave events)
  too_long takes within input wants =
      let w = needs now input _ wants in
      let few = subst (λ (k : ℕ). slice_index places k - length (fed k events) ≤ 1) w.0.only w.1 in
      let some = w.0.some in
      has_met EndsWithin w.0.idle
      (within s.feed.rest first.more (lacks_of now.feed) (place - length got) (lacking takes some)
      (omega (arith, some, few)))

  unread : TakesOn → (input : ℕ) → FallsShort (next_of now) input (slice_index places input - length (fed input events))
      → HasMet joins c plp LacksSome place (files 0) (gave events)
  unread takes input wants =
      let w = short now input _ wants in
      let none = subst (λ (k : ℕ). slice_index places k - length (fed k events) < 1) w.0.only w.1 in
      has_met LacksSome w.0.idle
      (lacks_some s.feed.rest first.more (lacks_of now.feed) (place - length got) (lacking takes w.0.some)
      w.0.some none)

-- ---- what could not be written

-- at the moment when all was written for the last time, packets were due; some of these were written
unwritten : OneRecord → NoRefusal → OneFrame → NoneWaits → (start now : ReceiverMachine) (files : ℕ
    → List ℕ) (places : List ℕ)
    (events : List Event) (bytes : List ℕ) → AllRules (network_of start.receiver) → AreFed 1 files places events
    → GaveSome reach_of next_of (Becomes start) 1 places events now bytes
    → HasSome (joins_of start.receiver) (network_of start.receiver) (plp_of start.receiver) (slice_index places 0)
    (files 0) bytes
unwritten one never frame waits start now files places events bytes rules are w =
    let joins : Option ℕ = joins_of start.receiver in
    let c : Config = network_of start.receiver in
    let plp : ℕ = plp_of start.receiver in
    let mid : ReceiverMachine = w.mid in
    let h : Shown joins c plp mid events = w.came.shown in
    let k : Shown joins c plp now (events ++ w.late) = w.came_late.shown in
    let f = are 0 (omega arith) in
    let due = some_due (due_of mid.receiver) mid.misplaced (lacks_of mid.feed) w.gives in
    let between = h.between due in
    let behind = behind_at joins c plp mid events Head between.0 h in
    let lacks = behind.1 in
    let left = between.1 in
    let nothing : h.feed.rest ≡ [] = nil_from_length h.feed.rest (omega (arith, lacks, left)) in
    let here : AreRecords (fed 0 events) h.views [] =
    subst (λ (l : List ℕ). AreRecords (fed 0 events) h.views l) nothing h.feed.records in
    let same : k.views ≡ h.views =
    same_views one never frame waits joins c plp rules h.first h.views now (events ++ w.late) k
    (subst (λ (l : List ℕ). AreRecords l h.views []) (sym ((gave_more events w.late w.only).fed 0)) here)
    h.successive in
    let e = (given_due joins c plp mid.receiver h.first h.views mid.slots (gave events) due h.given).early in
    let are_views : k.views ≡ e.before ++ e.last ∷ [] = same ∙ e.are in
    let text : List ℕ = gave (events ++ w.late) in
    let g = given_some joins c plp now.receiver k.first e.before e.last now.slots text
    (subst (λ (l : List RecordView). Given joins c plp now.receiver k.first l now.slots text) are_views k.given) in
    let later : List ℕ = concat (drop now.slots g.0.packets) in
    let written : concat (take now.slots g.0.packets) ≡ bytes ++ w.more = sym g.0.text_is ∙ w.parts in
    let size = ap length f.parts in
    let sum = length-append (fed 0 events) f.more in
    let ahead = f.ahead in
    let at = h.feed.size in
    let none = none_left (due_of mid.receiver) (left_of mid.feed) due in
    let near = w.within 0 (omega arith) in
    record {
      before = e.before;
      last = e.last;
      rest = f.more;
      records = subst (λ (l : List RecordView). AreRecords (files 0) l f.more) e.are
          (records_file (files 0) (fed 0 events) f.more [] h.views f.parts here);
      read = omega (arith, size, sum, ahead, at, none, near);
      all = concat g.0.packets;
      received = record {
        first = k.first;
        successive = subst (IsOnGrid c k.first) are_views k.successive;
        packets = g.0.packets;
        back = g.1 g.0.packets g.0.back;
        bytes_are = refl;
      };
      more = w.more ++ later;
      some = λ z. w.some (front_empty w.more later z);
      begins = packets_cut g.0.packets now.slots ∙ ap (λ (l : List ℕ). l ++ later) written
          ∙ append_assoc bytes w.more later;
      early = concat e.packets;
      received_early = record {
        first = h.first;
        successive = successive_front c h.first e.before (e.last ∷ []) (subst (IsOnGrid c h.first) e.are h.successive);
        packets = e.packets;
        back = e.back;
        bytes_are = refl;
      };
      late = e.more ++ w.front;
      since = w.is ∙ ap (λ (l : List ℕ). l ++ w.front) e.begins ∙ append_assoc (concat e.packets) e.more w.front;
    }

-- ---- the work of a machine

abbrev DoesSo : ReceiverMachine → Option ℕ → Config → ℕ → Type 0
DoesSo start joins c plp = DoesWork (receive_work joins c plp) 1 reach_of next_of (Becomes start)
    (λ m. ending_of (refusal_of (coming_of m.feed) m.misplaced) (count_of m.feed)
    (ran_by (network_of m.receiver) (plp_of m.receiver) m.first m.slots))

does : OneRecord → NoRefusal → OneFrame → TakesOn → LacksWithin → NoneWaits → (start : ReceiverMachine)
    → AllRules (network_of start.receiver)
    → DoesSo start (joins_of start.receiver) (network_of start.receiver) (plp_of start.receiver)
does one never frame takes lacks waits start rules = record {
  ends = λ files places events now all are within came end. ends start now files places events all are came end within;
  too_long = λ files places events now input all are within came lt most wants.
      too_long start now files places events all are came takes lacks input wants;
  unread = λ files places events now input all are within came lt wants.
      unread start now files places events all are came takes input wants;
  unwritten = λ files places events now bytes all are g.
      unwritten one never frame waits start now files places events bytes rules are g;
}

-- by the names of what it is for
pub receive_does : OneRecord → NoRefusal → OneFrame → TakesOn → LacksWithin → NoneWaits
    → (start : ReceiverMachine) (c : Config)
    (plp : ℕ) (joins : Option ℕ) → network_of start.receiver ≡ c → plp_of start.receiver ≡ plp
    → joins_of start.receiver ≡ joins
    → AllRules c → DoesSo start joins c plp
receive_does one never frame takes lacks waits start c plp common same_c same_p same_j rules =
    subst (λ (j : Option ℕ). DoesSo start j c plp) same_j
    (subst (DoesSo start (joins_of start.receiver) c) same_p
    (subst (λ (d : Config). DoesSo start (joins_of start.receiver) d (plp_of start.receiver)) same_c
    (does one never frame takes lacks waits start (subst AllRules (sym same_c) rules))))
