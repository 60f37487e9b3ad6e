-- A run goes on by one step, and how it stands.
use Rattle.std.proofs.Common.{◌≡◌, ◌≢◌, ℕ, ◌+◌, ◌-◌, ◌<◌, ◌≤◌, Bool, false, List, [], ◌++◌, length, Option, Some, None}
use Rattle.std.proofs.Common.{refl, ap, sym, subst, ◌∙◌, arith, length-append, append-nil}
use Rattle.std.specs.Prelude.{IsSome, slice_index, slice_index_or, slice_set, option_map}
use Rattle.std.specs.FinMap.{get}
use Rattle.std.proofs.lemmas.Bool.{cases_eq}
use Rattle.std.proofs.lemmas.List.{length-set, length-map, map-set, get_or-set_same, get_or-set_other}
use Rattle.std.proofs.lemmas.List.{get_or-append-add, set-append_right, get_or-map}
use Rattle.ports.specs.Desk.{State, Held, SameCounts, left_of, has_run_out}
use Rattle.file_run.specs.Reading.{Reading, given_of, longest_file, ReadsOn}
use Rattle.file_run.specs.Events.{Event, fed, has_ended, gave, OnlyGave}
use Rattle.file_run.specs.FileRun.{file_at, AreNamed, OtherFiles, SameFiles, Passes, IsFed, AreFed, Stands, HoldsAll}
use Rattle.file_run.specs.FileRun.{AllShort, StopsWriting}
use Rattle.file_run.specs.Running.{Start, place_of, no_reading, reading_at, places_of, HasOut, SaysOut, HoldsOut}
use Rattle.file_run.specs.Running.{Reached, IsRead, Relates, Runs, Drains, DrainsFront, IsWhole}
use Rattle.file_run.specs.Sink.{Sink, Into, Aloud, creates, AreOthers, Puts}
use Rattle.file_run.specs.declared.machine.Step.{Step}
use Rattle.file_run.specs.declared.machine.Step.TheVariants.{Give}
use Rattle.file_run.proofs.EventLemmas.{gave_more}
use Rattle.file_run.proofs.SinkLemmas.{some_is, said_kept, said_on, puts_stay, holds_on, left_on}

-- the place of the reader that read on
pub moved : (opened : List ℕ) (readings : List Reading) (input : ℕ) (is : Reading) (handle : ℕ)
    → handle ≡ length opened + input
    → input < length readings → given_of (reading_at readings input) ≤ given_of is
    → slice_set (opened ++ places_of readings) handle (slice_index (opened ++ places_of readings) handle
    + (given_of is - given_of (reading_at readings input))) ≡ opened ++ places_of (slice_set readings input is)
moved opened readings input is handle e lt le =
    let place : slice_index (opened ++ places_of readings) handle ≡ given_of (reading_at readings input) =
    ap (slice_index (opened ++ places_of readings)) e ∙ get_or-append-add opened (places_of readings) input 0
    ∙ get_or-map given_of readings input no_reading 0 lt in
    let sum : slice_index (opened ++ places_of readings) handle + (given_of is - given_of (reading_at readings input))
    ≡ given_of is = omega (arith, place, le) in
    let at : handle - length opened ≡ input = omega (arith, e) in
    ap (slice_set (opened ++ places_of readings) handle) sum ∙ set-append_right opened (places_of readings)
    (length opened) handle
    (given_of is) refl (omega (arith, e))
    ∙ ap (λ (k : ℕ). opened ++ slice_set (places_of readings) k (given_of is)) at
    ∙ ap (λ (l : List ℕ). opened ++ l) (sym (map-set given_of readings input is))

pub reading_same : (readings : List Reading) (input : ℕ) (is : Reading) → input < length readings
    → reading_at (slice_set readings input is) input ≡ is
reading_same readings input is lt = get_or-set_same readings input is no_reading lt

reading_other : (readings : List Reading) (input other : ℕ) (is : Reading) → other ≢ input
    → reading_at (slice_set readings input is) other ≡ reading_at readings other
reading_other readings input other is differ = get_or-set_other readings input other is no_reading differ

-- what holds of each reader, if one read on
pub each_reader : (P : ℕ → Reading → Type 0) (readings : List Reading) (input : ℕ) (is : Reading)
    → input < length readings
    → P input is → ((other : ℕ) → other < length readings → other ≢ input → P other (reading_at readings other))
    → (other : ℕ) → other < length (slice_set readings input is)
    → P other (reading_at (slice_set readings input is) other)
each_reader P readings input is lt here others other inside =
    grind (arith, length-set, cases_eq, reading_same, reading_other)

-- the output is as it was if what the desk holds is
held_out : (b : Start) (h : Held) (old new : State) (bytes : List ℕ) → new.held ≡ old.held → HoldsOut b h old bytes
    → HoldsOut b h new bytes
held_out b h old new bytes e t = record { is = t.is; held = e ∙ t.held; names = t.names; has = t.has }

-- A reader read on.
pub read_on : (b : Start) (old new : State) (readings : List Reading) (input : ℕ) (is : Reading) (bytes : List ℕ)
    → input < length readings → Reached b old readings bytes → ReadsOn old new (reading_at readings input) is
    → Reached b new (slice_set readings input is) bytes
read_on b old new readings input is bytes lt g r = record {
  opened =
      r.opened
      ∙ rw g.opened (moved b.desk.opened readings input is (reading_at readings input).handle (g.handles input lt)
      lt r.later);
  all = length-set readings input is ∙ g.all;
  handles = each_reader (λ k x. x.handle ≡ length b.desk.opened + k) readings input is lt (r.handle
      ∙ g.handles input lt)
      (λ other inside differ. g.handles other inside);
  created = r.created ∙ g.created;
  said = said_kept b.sink b.desk.said old.said new.said bytes g.said r.said;
  untold = λ none. r.held ∙ g.untold none;
  tells = λ h told. held_out b h old new bytes r.held (g.tells h told);
}

-- Another reader has left what it had.
pub other_left : (b : Start) (old new : State) (readings : List Reading) (input other : ℕ) (is : Reading)
    (bytes : List ℕ)
    → input < length readings → other < length readings → other ≢ input
    → Reached b old readings bytes → ReadsOn old new (reading_at readings input) is
    → left_of new (reading_at readings other).handle ≡ left_of old (reading_at readings other).handle
other_left b old new readings input other is bytes lt inside differ g r = grind arith

-- and is at its end only if it was
pub other_end : (b : Start) (old new : State) (readings : List Reading) (input other : ℕ) (is : Reading)
    (bytes : List ℕ)
    → input < length readings → other < length readings → other ≢ input
    → Reached b old readings bytes → ReadsOn old new (reading_at readings input) is
    → has_run_out new (reading_at readings other).handle ≡ has_run_out old (reading_at readings other).handle
other_end b old new readings input other is bytes lt inside differ g r = grind arith

-- More went out.
held_on : (b : Start) (h : Held) (old new : State) (bytes front : List ℕ) → HoldsOut b h old bytes
    → Puts (place_of b) old new front → HoldsOut b h new (bytes ++ front)
held_on b h old new bytes front t p =
    let k = holds_on b.sink b.desk.created h t.is old new bytes front t.held t.has p in
    record {
      is = k.is;
      held = k.held;
      names = λ input lt. ap (λ (l : List (List ℕ)). slice_index_or l (length b.desk.opened + input) []) k.names
          ∙ t.names input lt;
      has = k.has;
    }

put_on : (b : Start) (old new : State) (readings : List Reading) (bytes front : List ℕ) → Reached b old readings bytes
    → Puts (place_of b) old new front → Reached b new readings (bytes ++ front)
put_on b old new readings bytes front g p =
    let k = puts_stay (place_of b) old new front p in
    record {
      opened = k.opened ∙ g.opened;
      all = g.all;
      handles = g.handles;
      created = k.created ∙ g.created;
      said = said_on b.sink b.desk.created b.desk.said old new bytes front g.said p;
      untold = λ none. k.untold (g.untold none);
      tells = λ h told. held_on b h old new bytes front (g.tells h told) p;
    }

-- Each reader has left what it had.
none_left : (b : Start) (h : Held) (old new : State) (readings : List Reading) (bytes front : List ℕ) (input : ℕ)
    → AreOthers b.sink b.ins → b.desk.held ≡ Some h → input < length b.ins → Reached b old readings bytes
    → Puts (place_of b) old new front → left_of new (reading_at readings input).handle ≡ left_of old
    (reading_at readings input).handle
none_left b h old new readings bytes front input s told lt g p =
    let t = g.tells h told in
    let all = g.all in
    let name : slice_index_or t.is.names (reading_at readings input).handle [] ≡ slice_index_or b.ins input [] =
    ap (λ (k : ℕ). slice_index_or t.is.names k []) (g.handles input (omega (arith, lt, all))) ∙ t.names input lt in
    left_on b.sink b.desk.created h t.is old new bytes front _ (reading_at readings input).handle t.held
    t.has name (s input lt) p

other_files : (name : List ℕ) (created : ℕ) (new : State) (bytes : List ℕ) (o : Option Held)
    → (o ≡ None → new.held ≡ None)
    → ((h : Held) → o ≡ Some h → (k : Held) × (new.held ≡ Some k) × HasOut (Into name) created h k bytes)
    → OtherFiles name o new.held
other_files name created new bytes None untold tells = untold refl
other_files name created new bytes (Some h) untold tells = let t = tells h refl in (t.0, t.1, t.2.2)

same_files : (created : ℕ) (new : State) (bytes : List ℕ) (o : Option Held) → (o ≡ None → new.held ≡ None)
    → ((h : Held) → o ≡ Some h → (k : Held) × (new.held ≡ Some k) × HasOut Aloud created h k bytes)
    → SameFiles o new.held
same_files created new bytes None untold tells = untold refl
same_files created new bytes (Some h) untold tells = tells h refl

-- what went out of a run
passes_so : (sink : Sink) (old new : State) (ins : List (List ℕ)) (places bytes : List ℕ)
    → new.opened ≡ old.opened ++ places
    → length places ≡ length ins → AreNamed old new ins places → new.created ≡ old.created + creates sink
    → SaysOut sink old.said new.said bytes → (old.held ≡ None → new.held ≡ None)
    → ((h : Held) → old.held ≡ Some h → (k : Held) × (new.held ≡ Some k) × HasOut sink old.created h k bytes)
    → Passes sink old new ins places bytes
passes_so (Into name) old new ins places bytes opened all names created said untold tells = record {
  opened = opened;
  all = all;
  names = names;
  files = other_files name old.created new bytes old.held untold tells;
  created = created;
  said = said;
  holds = some_is old.held (λ h. (k : Held) × (new.held ≡ Some k) × ((is : List ℕ) × (get k.files name ≡ Some is)
      × (is ≡ bytes)))
      (λ h told. let t = tells h told in (t.0, t.1, (bytes, t.2.1, refl)));
}
passes_so Aloud old new ins places bytes opened all names created said untold tells = record {
  opened = opened;
  all = all;
  names = names;
  files = same_files old.created new bytes old.held untold tells;
  created = (let c = created in omega (arith, c));
  said = said;
}

pub passes : (b : Start) (now : State) (readings : List Reading) (bytes : List ℕ) → Reached b now readings bytes
    → Passes b.sink b.desk now b.ins (places_of readings) bytes
passes b now readings bytes g =
    passes_so b.sink b.desk now b.ins (places_of readings) bytes g.opened (length-map readings given_of ∙ g.all)
    (some_is b.desk.held (λ h. (k : Held) × (now.held ≡ Some k)
    × ((input : ℕ) → input < length (places_of readings) → slice_index_or k.names (length b.desk.opened + input) []
    ≡ slice_index_or b.ins input [])) (λ h told.
    let t = g.tells h told in (
      t.is,
      t.held,
      λ input lt. t.names input (let n = length-map readings given_of in let all = g.all in omega (arith, lt, n, all)),
    ))) g.created g.said g.untold (λ h told. let t = g.tells h told in (t.is, t.held, t.has))

-- what was taken of a file and what was read, from what is left of it
pub is_fed : (file waiting taken : List ℕ) (left : Option (List ℕ)) (ended : Bool) (place : ℕ)
    → place ≡ length taken + length waiting → IsRead file (option_map (λ l. waiting ++ l) left) taken ended
    → IsFed file place taken ended
is_fed file waiting taken None ended place e r = absurd (let z : None ≡ Some r.left = r.rest_is in cc)
is_fed file waiting taken (Some l) ended place e r =
    let some : Some (waiting ++ l) ≡ Some r.left = r.rest_is in
    let same : waiting ++ l ≡ r.left = cc in
    let n = length-append waiting l in
    let m = ap length same in
    let k = length-append taken r.left in
    let f = ap length r.parts in
    record {
      more = r.left;
      parts = r.parts;
      ahead = omega (arith, e);
      within = omega (arith, e, n, m, k, f);
      end = r.end;
    }

pub place_at : (readings : List Reading) (input : ℕ) → input < length readings → slice_index (places_of readings) input
    ≡ given_of (reading_at readings input)
place_at readings input lt = get_or-map given_of readings input no_reading 0 lt

-- where a run stands, of which so much is known
unfoldable pub stands_by : (b : Start) (now : State) (readings : List Reading) (bytes : List ℕ) (reach : ℕ → ℕ)
    (events : List Event) (Came : List Event → Type 0) (Holds : List Event → List ℕ → Type 0)
    → Reached b now readings bytes → Holds events bytes → Came events
    → ((input : ℕ) → input < length readings → given_of (reading_at readings input) ≤ longest_file)
    → ((input : ℕ) → input < length readings → (reading_at readings input).taken ≡ length (fed input events))
    → ((input : ℕ) → input < length readings → (reading_at readings input).ended ≡ has_ended input events)
    → ((input : ℕ) → input < length readings → IsWhole (reading_at readings input))
    → ((input : ℕ) → input < length readings → given_of (reading_at readings input) ≤ reach input)
    → ((h : Held) → b.desk.held ≡ Some h → Relates b h now readings events)
    → Stands b.desk now b.sink b.ins reach Came Holds
stands_by b now readings bytes reach events Came Holds g holds came short taken ended whole within relates = record {
  events = events;
  came = came;
  places = places_of readings;
  all = length-map readings given_of ∙ g.all;
  bytes = bytes;
  passes = passes b now readings bytes g;
  holds = holds;
  within = λ input lt. let inside : input < length readings = omega (arith, lt, g.all) in let p =
      place_at readings input inside in let w = within input inside in omega (arith, p, w);
  present = some_is b.desk.held (λ h. (input : ℕ) → input < length b.ins
      → IsSome (get h.files (slice_index_or b.ins input [])))
      (λ h told. (relates h told).present);
  inputs = some_is b.desk.held (λ h. AreFed (length b.ins) (file_at h b.ins) (places_of readings) events)
      (λ h told input lt.
      let inside : input < length readings = omega (arith, lt, g.all) in
      is_fed (file_at h b.ins input) (reading_at readings input).waiting (fed input events)
      (left_of now (reading_at readings input).handle) (has_ended input events) (slice_index (places_of readings) input)
      (let p = place_at readings input inside in let t = taken input inside in omega (arith, p, t))
      ((relates h told).reads input lt));
  short = λ input lt. let inside : input < length readings = omega (arith, lt, g.all) in let p = place_at
      readings input inside in
      let w = short input inside in omega (arith, p, w);
  taken = λ input lt.
      let inside : input < length readings = omega (arith, lt, g.all) in
      let p = place_at readings input inside in
      let t = taken input inside in (
        omega (arith, p, t),
        λ on. let w = ap length (whole input inside (ended input inside ∙ on)) in omega (arith, p, t, w),
      );
}

unfoldable pub stands : (b : Start) (now : State) (readings : List Reading) (reach : ℕ → ℕ) (events : List Event)
    (Came : List Event → Type 0) → Runs b now readings reach events → Came events
    → Stands b.desk now b.sink b.ins reach Came HoldsAll
stands b now readings reach events Came r came =
    stands_by b now readings (gave events) reach events Came HoldsAll r.reached refl came
    (λ input lt. let s = r.short input lt in omega (arith, s)) r.taken r.ended r.whole r.within r.relates

-- A machine was drained.
pub read_same : (file : List ℕ) (o p : Option (List ℕ)) (taken more : List ℕ) (ended now : Bool) → p ≡ o → more ≡ taken
    → now ≡ ended → IsRead file o taken ended → IsRead file p more now
read_same file o p taken more ended now e f h r = grind arith

-- the places of readers of which each is short
pub all_short : (readings : List Reading)
    → ((input : ℕ) → input < length readings → given_of (reading_at readings input) < longest_file)
    → AllShort (places_of readings)
all_short readings short input lt = grind (arith, length-map, place_at)

relates_on : (b : Start) (h : Held) (old new : State) (readings : List Reading) (reach : ℕ
    → ℕ) (events late : List Event)
    (front : List ℕ) → Runs b old readings reach events → OnlyGave late → Puts (place_of b) old new front
    → b.desk.held ≡ Some h → Relates b h new readings (events ++ late)
relates_on b h old new readings reach events late front r o p told =
    let rel = r.relates h told in
    let later = gave_more events late o in
    record {
      present = rel.present;
      reads = λ input lt.
          read_same _ _ _ _ _ _ _
          (ap (option_map (λ l. (reading_at readings input).waiting ++ l))
          (none_left b h old new readings (gave events) front input r.apart told lt r.reached p))
          (later.fed input) (later.ended input) (rel.reads input lt);
    }

pub runs_drained : {A : Type 0} (Becomes : A → List Event → A → Type 0) (m n : A) (b : Start) (old new : State)
    (readings : List Reading) (reach later : ℕ → ℕ) (events : List Event) → Runs b old readings reach events
    → SameCounts old new
    → ((input : ℕ) → reach input ≤ later input) → (d : Drains Becomes (place_of b) m n old new [])
    → Runs b new readings later (events ++ d.late)
runs_drained Becomes m n b old new readings reach later events r calm rises d =
    let more = gave_more events d.late d.only in
    let all : gave d.late ≡ d.front = d.parts ∙ append-nil d.front in
    record {
      apart = r.apart;
      reached = subst (λ (l : List ℕ). Reached b new readings l)
          (sym (more.gave ∙ ap (λ (l : List ℕ). gave events ++ l) all))
          (put_on b old new readings (gave events) d.front r.reached d.puts);
      counts = calm ∙ r.counts;
      short = r.short;
      taken = λ input lt. r.taken input lt ∙ ap length (sym (more.fed input));
      ended = λ input lt. r.ended input lt ∙ sym (more.ended input);
      within = λ input lt. let w = r.within input lt in let u = rises input in omega (arith, w, u);
      whole = r.whole;
      goes_on = λ input lt off. ap (λ (l : List Bool). slice_index_or l (reading_at readings input).handle false)
          (puts_stay (place_of b) old new d.front d.puts).ended ∙ r.goes_on input lt off;
      relates = λ h told. relates_on b h old new readings reach events d.late d.front r d.only d.puts told;
    }

-- What a machine gave could not go out.
pub stops_drained : {A : Type 0} (Becomes : A → List Event → A → Type 0) (start m n : A) (reach : A → ℕ
    → ℕ) (next : A → Step)
    (b : Start) (old new : State) (readings : List Reading) (events : List Event) → Runs b old readings (reach m) events
    → Becomes start events m → next m ≡ Give → DrainsFront Becomes (place_of b) m n old new
    → StopsWriting b.desk new b.sink b.ins reach next (Becomes start) n
unfolding stands_by
stops_drained Becomes start m n reach next b old new readings events r came gives f =
    let d = f.drains in
    record {
      mid = m;
      gives = gives;
      late = d.late;
      only = d.only;
      front = d.front;
      more = f.more;
      some = f.some;
      parts = d.parts;
      stands = stands_by b new readings (gave events ++ d.front) (reach m) events (λ events. Becomes start events m
          × Becomes start (events ++ d.late) n) (λ events bytes. bytes ≡ gave events ++ d.front)
          (put_on b old new readings (gave events) d.front r.reached d.puts) refl (came, d.becomes start events came)
          (λ input lt. let s = r.short input lt in omega (arith, s)) r.taken r.ended r.whole r.within
          (λ h told. let q = r.relates h told in record {
            present = q.present;
            reads = λ input lt.
                read_same _ _ _ _ _ _ _
                (ap (option_map (λ l. (reading_at readings input).waiting ++ l))
                (none_left b h old new readings (gave events) d.front input r.apart told lt r.reached d.puts))
                refl refl (q.reads input lt);
          });
      short = all_short readings r.short;
    }
