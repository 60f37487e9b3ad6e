-- A machine was fed in a run.
use Rattle.std.proofs.Common.{◌≡◌, ◌≢◌, ℕ, ◌+◌, ◌-◌, ◌<◌, ◌≤◌, Bool, true, false, List, [], ◌∷◌, ◌++◌, length, Option}
use Rattle.std.proofs.Common.{Some, None, refl, ap, sym, subst, ◌∙◌, inl, inr, arith, append_assoc, length-append}
use Rattle.std.specs.Prelude.{slice_index, slice_set, option_map, ◌⊎◌}
use Rattle.std.proofs.lemmas.List.{nil_from_length, length-set}
use Rattle.ports.specs.Desk.{State, SameCounts}
use Rattle.file_run.specs.Reading.{Reading, given_of, rest_of, longest_file, ReadsOn, TakesNone, StopsReading}
use Rattle.file_run.specs.declared.ahead.ReadStop.{ReadStop}
use Rattle.file_run.specs.declared.ahead.ReadStop.TheVariants as stop
use Rattle.file_run.specs.Events.{Event, Fed, Ended, Gave, fed, has_ended, gave}
use Rattle.file_run.specs.FileRun.{file_at, Stands, HoldsAll, Stops}
use Rattle.file_run.specs.Running.{Start, reading_at, places_of, Reached, IsRead, IsWhole, GoesOn, Runs, IsTaken}
use Rattle.file_run.specs.Running.{IsMarked, Feeds, read_fault}
use Rattle.std.proofs.lemmas.Bool.{true≢false}
use Rattle.file_run.specs.Steps.{Needs, FallsShort}
use Rattle.file_run.specs.declared.machine.Step.{Step}
use Rattle.file_run.specs.declared.machine.Step.TheVariants.{Read}
use Rattle.file_run.proofs.EventLemmas.{fed_more, ended_more}
use Rattle.file_run.proofs.OpenLemmas.{reads_fail}
use Rattle.file_run.proofs.SinkLemmas.{of_some}
use Rattle.file_run.proofs.RunLemmas.{each_reader, read_same, read_on, other_left, other_end, stands_by, reading_same}
use Rattle.file_run.proofs.RunLemmas.{place_at, all_short}

-- what one event tells of its input, of another one, and of the output
pub fed_other : (e : Event) (input other count : ℕ) (o n : Option (List ℕ)) (events : List Event) → other ≢ input
    → IsTaken e input o n count → fed other (events ++ e ∷ []) ≡ fed other events
fed_other (Fed to bytes) input other count o n events differ t = (fed_more to bytes events).others other
    (λ e. differ (e ∙ t.0))
fed_other (Ended to bytes) input other count o n events differ t =
    (ended_more to bytes events).others other (λ e. differ (e ∙ t.0))
fed_other (Gave bytes) input other count o n events differ t = absurd t

pub ended_other : (e : Event) (input other count : ℕ) (o n : Option (List ℕ)) (events : List Event) → other ≢ input
    → IsTaken e input o n count → has_ended other (events ++ e ∷ []) ≡ has_ended other events
ended_other (Fed to bytes) input other count o n events differ t = (fed_more to bytes events).ended other
ended_other (Ended to bytes) input other count o n events differ t =
    (ended_more to bytes events).others_ended other (λ e. differ (e ∙ t.0))
ended_other (Gave bytes) input other count o n events differ t = absurd t

pub gives_none : (e : Event) (input count : ℕ) (o n : Option (List ℕ)) (events : List Event) → IsTaken e input o n count
    → gave (events ++ e ∷ []) ≡ gave events
gives_none (Fed to bytes) input count o n events t = (fed_more to bytes events).gave
gives_none (Ended to bytes) input count o n events t = (ended_more to bytes events).gave
gives_none (Gave bytes) input count o n events t = absurd t

longer : (now was more : List ℕ) (count : ℕ) → now ≡ was ++ more → count ≡ length more → length now ≡ length was + count
longer now was more count e f = ap length e ∙ length-append was more ∙ ap (λ (k : ℕ). length was + k) (sym f)

pub fed_here : (e : Event) (input count : ℕ) (o n : Option (List ℕ)) (events : List Event) → IsTaken e input o n count
    → length (fed input (events ++ e ∷ [])) ≡ length (fed input events) + count
fed_here (Fed to bytes) input count o n events t = ap (λ (k : ℕ). length (fed input (events ++ Fed k bytes ∷ []))) t.0
    ∙ longer _ (fed input events) bytes count (fed_more input bytes events).here t.1
fed_here (Ended to bytes) input count o n events t = ap (λ (k : ℕ). length (fed input (events ++ Ended k bytes ∷ [])))
    t.0
    ∙ longer _ (fed input events) bytes count (ended_more input bytes events).here t.1
fed_here (Gave bytes) input count o n events t = absurd t

opened_left : (rest : Option (List ℕ)) (front left : List ℕ) (o : Option (List ℕ))
    → o ≡ option_map (λ rest. front ++ rest) rest
    → o ≡ Some left → (l : List ℕ) × (rest ≡ Some l) × (left ≡ front ++ l)
opened_left None front left o e f = absurd (let z : Some left ≡ None = sym f ∙ e in cc)
opened_left (Some l) front left o e f = (l, refl, (let z : Some left ≡ Some (front ++ l) = sym f ∙ e in cc))

none_behind : (front l : List ℕ) → front ++ l ≡ [] → l ≡ []
none_behind front l e = nil_from_length l (let n = ap length e in let m = length-append front l in omega (arith, n, m))

read_more : (file front taken now : List ℕ) (o n : Option (List ℕ)) (was is : Bool)
    → o ≡ option_map (λ rest. front ++ rest) n
    → now ≡ taken ++ front → ((l : List ℕ) → n ≡ Some l → is ≡ true → (was ≡ true) ⊎ (l ≡ []))
    → IsRead file o taken was → IsRead file n now is
read_more file front taken now o n was is e f end r = grind (arith, opened_left, append_assoc, none_behind)

pub read_here : (e : Event) (file : List ℕ) (input count : ℕ) (o n : Option (List ℕ)) (events : List Event)
    → IsTaken e input o n count → IsRead file o (fed input events) (has_ended input events)
    → IsRead file n (fed input (events ++ e ∷ [])) (has_ended input (events ++ e ∷ []))
read_here (Fed to bytes) file input count o n events t r =
    subst (λ (k : ℕ). IsRead file n (fed input (events ++ Fed k bytes ∷ []))
    (has_ended input (events ++ Fed k bytes ∷ [])))
    (sym t.0)
    (read_more file bytes (fed input events) _ o n (has_ended input events) _ t.2 (fed_more input bytes events).here
    (λ l is on. inl (sym ((fed_more input bytes events).ended input) ∙ on)) r)
read_here (Ended to bytes) file input count o n events t r =
    subst (λ (k : ℕ). IsRead file n (fed input (events ++ Ended k bytes ∷ []))
    (has_ended input (events ++ Ended k bytes ∷ [])))
    (sym t.0)
    (read_more file bytes (fed input events) _ o n (has_ended input events) _ t.2 (ended_more input bytes events).here
    (λ l is on. inr (of_some n l (λ rest. rest ≡ []) is t.3)) r)
read_here (Gave bytes) file input count o n events t r = absurd t

pub ended_here : (e : Event) (input count : ℕ) (o n : Option (List ℕ)) (was is : Bool) (events : List Event)
    → IsTaken e input o n count → IsMarked e was is → was ≡ has_ended input events
    → is ≡ has_ended input (events ++ e ∷ [])
ended_here (Fed to bytes) input count o n was is events t m h = m ∙ h ∙ sym ((fed_more to bytes events).ended input)
ended_here (Ended to bytes) input count o n was is events t m h =
    m ∙ sym (ap (λ (k : ℕ). has_ended input (events ++ Ended k bytes ∷ [])) t.0 ∙ (ended_more input bytes events).ended)
ended_here (Gave bytes) input count o n was is events t m h = absurd t

-- A machine was fed.
pub runs_fed : {A : Type 0} (Becomes : A → List Event → A → Type 0) (m n : A) (b : Start) (old new : State)
    (readings : List Reading) (input : ℕ) (is : Reading) (reach later : ℕ → ℕ) (events : List Event)
    → input < length readings → Runs b old readings reach events → ReadsOn old new (reading_at readings input) is
    → SameCounts old new → given_of is < longest_file → given_of is ≤ later input
    → ((other : ℕ) → reach other ≤ later other) → (f : Feeds Becomes m n old new (reading_at readings input) is input)
    → Runs b new (slice_set readings input is) later (events ++ f.event ∷ [])
runs_fed Becomes m n b old new readings input is reach later events lt r on calm small near rises f = record {
  apart = r.apart;
  reached = subst (λ (l : List ℕ). Reached b new (slice_set readings input is) l)
      (sym (gives_none f.event input f.count _ _ events f.is_taken))
      (read_on b old new readings input is (gave events) lt r.reached on);
  counts = calm ∙ r.counts;
  short = each_reader (λ k x. given_of x < longest_file) readings input is lt small
      (λ other inside differ. r.short other inside);
  taken = each_reader (λ k x. x.taken ≡ length (fed k (events ++ f.event ∷ []))) readings input is lt
      (f.taken ∙ ap (λ (k : ℕ). k + f.count) (r.taken input lt)
      ∙ sym (fed_here f.event input f.count _ _ events f.is_taken))
      (λ other inside differ. r.taken other inside
      ∙ ap length (sym (fed_other f.event input other f.count _ _ events differ f.is_taken)));
  ended = each_reader (λ k x. x.ended ≡ has_ended k (events ++ f.event ∷ [])) readings input is lt
      (ended_here f.event input f.count _ _ _ _ events f.is_taken f.marked (r.ended input lt))
      (λ other inside differ. r.ended other inside
      ∙ sym (ended_other f.event input other f.count _ _ events differ f.is_taken));
  within = each_reader (λ k x. given_of x ≤ later k) readings input is lt near
      (λ other inside differ. let w = r.within other inside in let u = rises other in omega (arith, w, u));
  whole = each_reader (λ k x. IsWhole x) readings input is lt f.whole (λ other inside differ. r.whole other inside);
  goes_on = each_reader (λ k x. GoesOn new x) readings input is lt f.goes_on
      (λ other inside differ off. other_end b old new readings input other is (gave events) lt inside
      differ r.reached on
      ∙ r.goes_on other inside off);
  relates = λ h told.
      let rel = r.relates h told in
      let all = r.reached.all in
      record {
        present = rel.present;
        reads = λ other inside.
            each_reader (λ k x. IsRead (file_at h b.ins k) (rest_of new x) (fed k (events ++ f.event ∷ []))
            (has_ended k (events ++ f.event ∷ []))) readings input is lt
            (read_here f.event (file_at h b.ins input) input f.count _ _ events f.is_taken
            (rel.reads input (omega (arith, lt, all))))
            (λ k there differ. read_same _ _ _ _ _ _ _
            (ap (option_map (λ l. (reading_at readings k).waiting ++ l))
            (other_left b old new readings input k is (gave events) lt there differ r.reached on))
            (fed_other f.event input k f.count _ _ events differ f.is_taken)
            (ended_other f.event input k f.count _ _ events differ f.is_taken)
            (rel.reads k (omega (arith, there, all))))
            other (let e = length-set readings input is in omega (arith, e, all, inside));
      };
}

-- An input was not read on.
stands_unfed : {A : Type 0} (Becomes : List Event → A → Type 0) (m : A) (reach : A → ℕ → ℕ) (b : Start)
    (old new : State)
    (readings : List Reading) (input : ℕ) (is : Reading) (events : List Event)
    → input < length readings → Runs b old readings (reach m) events → Becomes events m
    → ReadsOn old new (reading_at readings input) is → TakesNone old new (reading_at readings input) is
    → (reading_at readings input).ended ≡ false → given_of is ≤ longest_file → given_of is ≤ reach m input
    → Stands b.desk new b.sink b.ins (reach m) (λ events. Becomes events m) HoldsAll
stands_unfed Becomes m reach b old new readings input is events lt r came on none off small near =
    stands_by b new (slice_set readings input is) (gave events) (reach m) events (λ events. Becomes events m) HoldsAll
    (read_on b old new readings input is (gave events) lt r.reached on) refl came
    (each_reader (λ k x. given_of x ≤ longest_file) readings input is lt small
    (λ other inside differ. let s = r.short other inside in omega (arith, s)))
    (each_reader (λ k x. x.taken ≡ length (fed k events)) readings input is lt (none.taken ∙ r.taken input lt)
    (λ other inside differ. r.taken other inside))
    (each_reader (λ k x. x.ended ≡ has_ended k events) readings input is lt (none.ended ∙ r.ended input lt)
    (λ other inside differ. r.ended other inside))
    (each_reader (λ k x. IsWhole x) readings input is lt (λ on. absurd (true≢false (sym on ∙ none.ended ∙ off)))
    (λ other inside differ. r.whole other inside))
    (each_reader (λ k x. given_of x ≤ reach m k) readings input is lt near
    (λ other inside differ. r.within other inside))
    (λ h told.
    let rel = r.relates h told in
    let all = r.reached.all in
    record {
      present = rel.present;
      reads = λ other inside. each_reader (λ k x. IsRead (file_at h b.ins k) (rest_of new x) (fed k events)
          (has_ended k events))
          readings input is lt
          (read_same _ _ _ _ _ _ _ none.rest refl refl (rel.reads input (omega (arith, lt, all))))
          (λ k there differ. read_same _ _ _ _ _ _ _
          (ap (option_map (λ l. (reading_at readings k).waiting ++ l))
          (other_left b old new readings input k is (gave events) lt there differ r.reached on)) refl refl
          (rel.reads k (omega (arith, there, all))))
          other (let e = length-set readings input is in omega (arith, e, all, inside));
    })

-- how much was read and not taken
pub untaken : (readings : List Reading) (input fed : ℕ) (is : Reading) → input < length readings → is.taken ≡ fed
    → slice_index (places_of (slice_set readings input is)) input - fed ≡ length is.waiting
untaken readings input fed is lt t = grind (arith, length-set, place_at, reading_same)

pub stops_unfed : {A : Type 0} (Becomes : List Event → A → Type 0) (m : A) (reach : A → ℕ → ℕ) (next : A
    → Step) (b : Start)
    (old new : State) (readings : List Reading) (input least most : ℕ) (is : Reading) (events : List Event)
    (why : ReadStop)
    → input < length readings → next m ≡ Read input least most → Runs b old readings (reach m) events → Becomes events m
    → ReadsOn old new (reading_at readings input) is → TakesNone old new (reading_at readings input) is
    → (reading_at readings input).ended ≡ false → given_of is ≤ reach m input → StopsReading old new is least why
    → Stops b.desk new b.sink b.ins reach next Becomes m
    (read_fault input why)
unfolding stands_by stands_unfed
stops_unfed Becomes m reach next b old new readings input least most is events stop.TooLong lt wants
    r came on none off near s =
    record {
      stands = stands_unfed Becomes m reach b old new readings input is events lt r came on none off (let e = s.0 in
          omega (arith, e)) near;
      place = let all = r.reached.all in omega (arith, lt, all);
      wants = subst
          (λ (x : Step). Needs x input (slice_index (places_of (slice_set readings input is)) input -
          length (fed input events)))
          (sym wants) (
            refl,
            (let u = untaken readings input (length (fed input events)) is lt (none.taken ∙ r.taken input lt) in
                let w = s.1 in
                omega (arith, u, w)),
          );
      gave = place_at (slice_set readings input is) input (let e = length-set readings input is in omega (arith, e, lt))
          ∙ ap given_of (reading_same readings input is lt) ∙ s.0;
      counts = s.2 ∙ r.counts;
    }
stops_unfed Becomes m reach next b old new readings input least most is events stop.Fault lt wants r
    came on none off near s = (
      reads_fail b.desk old new r.counts s.2,
      inr (record {
        stands = stands_unfed Becomes m reach b old new readings input is events lt r came on none off (let e = s.0 in
            omega (arith, e)) near;
        place = let all = r.reached.all in omega (arith, lt, all);
        wants = subst
            (λ (x : Step).
            FallsShort x input (slice_index (places_of (slice_set readings input is)) input - length
            (fed input events)))
            (sym wants) (
              refl,
              (let u = untaken readings input (length (fed input events)) is lt (none.taken ∙ r.taken input lt) in
                  let w = s.1 in
                  omega (arith, u, w)),
            );
        short = all_short (slice_set readings input is) (each_reader (λ k x. given_of x < longest_file) readings
            input is lt s.0
            (λ other inside differ. r.short other inside));
      }),
    )
