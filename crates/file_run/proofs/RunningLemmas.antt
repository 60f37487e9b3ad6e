-- The machine of a run is where it came to.
use Rattle.std.proofs.Common.{◌≡◌, ◌≢◌, ℕ, ◌+◌, ◌<◌, ◌≤◌, false, List, [], ◌++◌, ◌∷◌, length, refl, ap, sym, subst, ◌∙◌}
use Rattle.std.proofs.Common.{inr, arith}
use Rattle.std.specs.Prelude.{◌⊎◌, slice_index_or, slice_set}
use Rattle.std.proofs.lemmas.List.{get_or_default}
use Rattle.ports.specs.Desk.{State, SameCounts}
use Rattle.file_run.specs.Faults.{WritesFail}
use Rattle.file_run.specs.DeskLaws.{CreatesEmpty}
use Rattle.file_run.specs.Reading.{Reading, given_of, longest_file, ReadsOn, TakesNone, StopsReading}
use Rattle.file_run.specs.declared.ahead.ReadStop.{ReadStop}
use Rattle.file_run.specs.Events.{Event, fed, has_ended}
use Rattle.file_run.specs.FileRun.{FailsToBegin, StopsWriting, RunsAll, Stops}
use Rattle.file_run.specs.Running.{Start, place_of, no_reading, reading_at, AreOpened, IsBegun, Drains, DrainsFront}
use Rattle.file_run.specs.Running.{Feeds, IsRunning, read_fault}
use Rattle.file_run.specs.Sink.{Sink, Into, Aloud, creates, out_of, AreOthers, IsOpen}
use Rattle.file_run.specs.declared.output.OpenOutput.{OpenOutput}
use Rattle.file_run.specs.Steps.{HasCome}
use Rattle.file_run.specs.declared.machine.Step.{Step}
use Rattle.file_run.specs.declared.machine.Step.TheVariants.{Read, Give, End}
use Rattle.file_run.proofs.FedLemmas.{runs_fed, stops_unfed}
use Rattle.file_run.proofs.OpenLemmas.{runs_first, writes_fail}
use Rattle.file_run.proofs.SinkLemmas.{begins_at}
use Rattle.file_run.proofs.RunLemmas.{stands, stands_by, all_short, runs_drained, stops_drained}

pub running_first : CreatesEmpty → {A : Type 0} (Becomes : List Event → A → Type 0) (reach : A → ℕ
    → ℕ) (m : A) (b : Start)
    (mid new : State) (readings : List Reading) (out : OpenOutput) → AreOthers b.sink b.ins
    → AreOpened b.desk mid b.ins readings
    → IsBegun mid new b.sink out → Becomes [] m → IsRunning Becomes reach b new m readings
running_first law Becomes reach m b mid new readings out apart a c came = record {
  events = [];
  came = came;
  runs = runs_first law b mid new readings out (reach m) apart a c;
}

-- the output that was begun
pub place_first : (b : Start) (mid new : State) (readings : List Reading) (out : OpenOutput)
    → AreOpened b.desk mid b.ins readings
    → IsBegun mid new b.sink out → out ≡ place_of b
place_first b mid new readings out a c = (begins_at b.sink mid new out c.begins).is ∙ ap (out_of b.sink) a.created

opened_at : (sink : Sink) (created : ℕ) (s : State) → s.created ≡ created + creates sink
    → IsOpen (out_of sink created) s
opened_at (Into name) created s e = omega (arith, e)
opened_at Aloud created s e = tt

pub is_open : {A : Type 0} (Becomes : List Event → A → Type 0) (reach : A → ℕ → ℕ) (m : A) (b : Start) (now : State)
    (readings : List Reading) (out : OpenOutput) → out ≡ place_of b → IsRunning Becomes reach b now m readings
    → IsOpen out now
is_open Becomes reach m b now readings out e r =
    subst (λ (o : OpenOutput). IsOpen o now) (sym e) (opened_at b.sink b.desk.created now r.runs.reached.created)

pub running_drained : {A : Type 0} (Becomes : A → List Event → A → Type 0) (start m n : A) (reach : A
    → ℕ → ℕ) (b : Start)
    (old new : State) (readings : List Reading) (out : OpenOutput) → out ≡ place_of b
    → SameCounts old new → ((input : ℕ) → reach m input ≤ reach n input) → Drains Becomes out m n old new []
    → IsRunning (Becomes start) reach b old m readings → IsRunning (Becomes start) reach b new n readings
running_drained Becomes start m n reach b old new readings out place calm rises drains r =
    let d : Drains Becomes (place_of b) m n old new [] =
    subst (λ (o : OpenOutput). Drains Becomes o m n old new []) place drains in
    record {
      events = r.events ++ d.late;
      came = d.becomes start r.events r.came;
      runs = runs_drained Becomes m n b old new readings (reach m) (reach n) r.events r.runs calm rises d;
    }

pub stopped_drained : {A : Type 0} (Becomes : A → List Event → A → Type 0) (start m n : A) (reach : A
    → ℕ → ℕ) (next : A → Step)
    (b : Start) (old new : State) (readings : List Reading) (out : OpenOutput) → out ≡ place_of b
    → WritesFail old new → next m ≡ Give → DrainsFront Becomes out m n old new
    → IsRunning (Becomes start) reach b old m readings
    → WritesFail b.desk new
    × (FailsToBegin b.sink b.desk new b.ins ⊎ StopsWriting b.desk new b.sink b.ins reach next (Becomes start) n)
stopped_drained Becomes start m n reach next b old new readings out place fault gives d r = (
  writes_fail b.desk old new r.runs.counts fault,
  inr (stops_drained Becomes start m n reach next b old new readings r.events r.runs r.came gives
      (subst (λ (o : OpenOutput). DrainsFront Becomes o m n old new) place d)),
)

-- and further if it was fed.
pub came_fed : {A : Type 0} (Becomes : A → List Event → A → Type 0) (old new : A) (before after : State)
    (was is : Reading)
    (input : ℕ) → HasCome Becomes old → Feeds Becomes old new before after was is input → HasCome Becomes new
came_fed Becomes old new before after was is input c f =
    record { start = c.start; events = c.events ++ f.event ∷ []; came = f.becomes c.start c.events c.came }

pub item_is : (readings : List Reading) (input : ℕ) (was d : Reading) → input < length readings
    → was ≡ slice_index_or readings input d → was ≡ reading_at readings input
item_is readings input was d lt e = e ∙ get_or_default readings input d no_reading lt

-- how far a reader may be that read on
near : {A : Type 0} (Becomes : List Event → A → Type 0) (reach : A → ℕ → ℕ) (m : A) (b : Start) (old : State)
    (readings : List Reading) (input most : ℕ) (is : Reading) → input < length readings
    → (r : IsRunning Becomes reach b old m readings) → length (fed input r.events) + most ≤ reach m input
    → ((limit : ℕ) → given_of (reading_at readings input) ≤ limit → (reading_at readings input).taken + most ≤ limit
    → given_of is ≤ limit) → given_of is ≤ reach m input
near Becomes reach m b old readings input most is lt r wanted limit =
    limit (reach m input) (r.runs.within input lt) (let t = r.runs.taken input lt in omega (arith, t, wanted))

-- what was read by a reader that is the one of the input
pub record IsReadOn (old new : State) (was is : Reading) (most : ℕ) : Type 0 where
  pub reads : ReadsOn old new was is
  pub limit : (limit : ℕ) → given_of was ≤ limit → was.taken + most ≤ limit → given_of is ≤ limit

pub running_fed : {A : Type 0} (Becomes : A → List Event → A → Type 0) (start m n : A) (reach : A → ℕ → ℕ) (b : Start)
    (old new : State) (readings : List Reading) (input most : ℕ) (was is d : Reading) → input < length readings
    → was ≡ slice_index_or readings input d → IsReadOn old new was is most → SameCounts old new
    → given_of is < longest_file
    → ((other : ℕ) → reach m other ≤ reach n other) → Feeds Becomes m n old new was is input
    → (r : IsRunning (Becomes start) reach b old m readings) → length (fed input r.events) + most ≤ reach m input
    → IsRunning (Becomes start) reach b new n (slice_set readings input is)
running_fed Becomes start m n reach b old new readings input most was is d lt at q calm small rises f r wanted =
    let e = item_is readings input was d lt at in
    let on : IsReadOn old new (reading_at readings input) is most = subst (λ (x : Reading). IsReadOn old new x is most)
    e q in
    let feeds : Feeds Becomes m n old new (reading_at readings input) is input =
    subst (λ (x : Reading). Feeds Becomes m n old new x is input) e f in
    let k = near (Becomes start) reach m b old readings input most is lt r wanted on.limit in
    let u = rises input in
    record {
      events = r.events ++ feeds.event ∷ [];
      came = feeds.becomes start r.events r.came;
      runs = runs_fed Becomes m n b old new readings input is (reach m) (reach n) r.events lt r.runs on.reads calm small
          (omega (arith, k, u)) rises feeds;
    }

pub stopped_fed : {A : Type 0} (Becomes : List Event → A → Type 0) (m n : A) (reach : A → ℕ → ℕ) (next : A
    → Step) (b : Start)
    (old new : State) (readings : List Reading) (input least most : ℕ) (was is d : Reading) (why : ReadStop)
    → input < length readings → was ≡ slice_index_or readings input d → IsReadOn old new was is most
    → TakesNone old new was is
    → n ≡ m → next m ≡ Read input least most → StopsReading old new is least why
    → (r : IsRunning Becomes reach b old m readings) → has_ended input r.events ≡ false
    → length (fed input r.events) + most ≤ reach m input → Stops b.desk new b.sink b.ins reach next Becomes
    n (read_fault input why)
stopped_fed Becomes m n reach next b old new readings input least most was is d why lt at q t same wants
    s r going wanted =
    let e = item_is readings input was d lt at in
    let on : IsReadOn old new (reading_at readings input) is most = subst (λ (x : Reading). IsReadOn old new x is most)
    e q in
    let none : TakesNone old new (reading_at readings input) is = subst (λ (x : Reading). TakesNone old new x is) e t in
    let k = near Becomes reach m b old readings input most is lt r wanted on.limit in
    subst (λ x. Stops b.desk new b.sink b.ins reach next Becomes x (read_fault input why)) (sym same)
    (stops_unfed Becomes m reach next b old new readings input least most is r.events why lt wants r.runs
    r.came on.reads none
    (r.runs.ended input lt ∙ going) k s)

pub run_all : {A : Type 0} (Becomes : List Event → A → Type 0) (m : A) (reach : A → ℕ → ℕ) (b : Start) (now : State)
    (readings : List Reading) → IsRunning Becomes reach b now m readings
    → RunsAll b.desk now b.sink b.ins (reach m) (λ events. Becomes events m)
unfolding stands stands_by
run_all Becomes m reach b now readings r = record {
  stands = stands b now readings (reach m) r.events (λ events. Becomes events m) r.runs r.came;
  short = all_short readings r.runs.short;
  counts = r.runs.counts;
}

-- A step that neither reads nor gives is the end.
pub at_end : (s : Step) → s ≢ Give → ((input least most : ℕ) → s ≢ Read input least most) → s ≡ End
at_end (Read input least most) give read = absurd (read input least most refl)
at_end Give give read = absurd (give refl)
at_end End give read = refl
