-- A run of a machine that does a work ends as one must that does it.
use Rattle.std.proofs.Common.{◌≡◌, ℕ, ◌-◌, ◌<◌, true, List, [], ◌++◌, length, Option, Some, None, refl, ap, sym, subst}
use Rattle.std.proofs.Common.{◌∙◌, inl, inr, arith, length-append, append_assoc}
use Rattle.std.specs.Prelude.{Result, Ok, Err, IfSome, IsSome, slice_index, slice_index_or, replicate}
use Rattle.std.specs.FinMap.{get}
use Rattle.std.proofs.lemmas.List.{length-replicate}
use Rattle.std.proofs.lemmas.Option.{IfSome_then}
use Rattle.terms.proofs.OptionLemmas.{if_both}
use Rattle.ports.specs.Desk.{State, Held}
use Rattle.file_run.specs.Reading.{longest_file}
use Rattle.file_run.specs.Events.{Event, fed, has_ended, gave}
use Rattle.file_run.specs.FileRun.{file_at, AreFed, AreTaken, Works, Passes, Stands, AllShort, Stops}
use Rattle.file_run.specs.OneRun.{ComesToEnd, RunsOnce}
use Rattle.file_run.specs.Sink.{Sink, Into}
use Rattle.file_run.specs.Work.{Work, AreWhole, Does, Ends, IsRightAtEnd, DoesWork}
use Rattle.file_run.specs.declared.machine.Step.{Step}
use Rattle.file_run.specs.declared.stop.RunFault.{RunFault}
use Rattle.file_run.specs.declared.stop.RunFault.TheVariants.{TooLong, ReadFault, WriteFault}
use Rattle.file_run.specs.declared.stop.RunStop.{RunStop}
use Rattle.file_run.specs.declared.stop.RunStop.TheVariants.{Refused, Files, OutOfMemory}
use Rattle.file_run.proofs.EventLemmas.{gave_more}

-- ---- files that begin with what was fed, as long as was read

abbrev made : List ℕ → List Event → ℕ → List ℕ
made places events input = fed input events ++ replicate (slice_index places input - length (fed input events)) 0

none_more : (n : ℕ) → n ≡ 0 → replicate {A = ℕ} n 0 ≡ []
none_more n e = ap (λ (k : ℕ). replicate {A = ℕ} k 0) e

made_fed : (inputs : ℕ) (places : List ℕ) (events : List Event) → AreTaken inputs places events
    → AreFed inputs (made places events) places events
made_fed inputs places events taken input lt = grind (arith, length-append, length-replicate, none_more)

-- If all inputs ended, each was read to its end.
pub are_whole : (inputs : ℕ) (files : ℕ → List ℕ) (places : List ℕ) (events : List Event) → length places ≡ inputs
    → AreFed inputs files places events → ((input : ℕ) → input < inputs → has_ended input events ≡ true)
    → AreWhole files places
are_whole inputs files places events all are ended input lt =
    let inside : input < inputs = omega (arith, lt, all) in
    let f = are input inside in
    let n = length-append (fed input events) f.more in
    let m = ap length f.parts in
    let z = ap length (f.end (ended input inside)) in
    let a = f.ahead in
    let w = f.within in
    omega (arith, n, m, z, a, w)

-- ---- where a run stands, by files

does_of : {old new : State} {ins : List (List ℕ)} (sink : Sink) (work : (ℕ → List ℕ) → List ℕ → List ℕ → Type 0)
    (places : List ℕ) (events : List Event) (bytes : List ℕ) → length places ≡ length ins
    → Passes sink old new ins places bytes
    → AreTaken (length ins) places events
    → IfSome old.held (λ h. (input : ℕ) → input < length ins → IsSome (get h.files (slice_index_or ins input [])))
    → IfSome old.held (λ h. AreFed (length ins) (file_at h ins) places events)
    → ((files : ℕ → List ℕ) → AreFed (length ins) files places events → work files places bytes)
    → Does work old new sink ins
does_of {old = old} {new = new} {ins = ins} sink work places events bytes all passes taken present inputs
    f = by old.held refl
  where
    by : (o : Option Held) → old.held ≡ o → Does work old new sink ins
    by None none =
        let are = made_fed (length ins) places events taken in
        record {
          files = made places events;
          places = places;
          bytes = bytes;
          does = f (made places events) are;
          all = all;
          within = λ input lt. (are input lt).within;
          passes = passes;
          told = subst (λ (o : Option Held). IfSome o (λ h. (made places events ≡ file_at h ins)
              × ((input : ℕ) → input < length ins → IsSome (get h.files (slice_index_or ins input []))))) (sym none) tt;
        }
    by (Some h) some =
        let are : AreFed (length ins) (file_at h ins) places events =
        subst (λ (o : Option Held). IfSome o (λ h. AreFed (length ins) (file_at h ins) places events)) some inputs in
        record {
          files = file_at h ins;
          places = places;
          bytes = bytes;
          does = f (file_at h ins) are;
          all = all;
          within = λ input lt. (are input lt).within;
          passes = passes;
          told = subst (λ (o : Option Held). IfSome o (λ k. (file_at h ins ≡ file_at k ins)
              × ((input : ℕ) → input < length ins → IsSome (get k.files (slice_index_or ins input []))))) (sym some) (
                refl,
                subst (λ (o : Option Held). IfSome o (λ h. (input : ℕ) → input < length ins
                    → IsSome (get h.files (slice_index_or ins input [])))) some present,
              );
        }

does_by : {old new : State} {sink : Sink} {ins : List (List ℕ)} {reach : ℕ → ℕ} {Came : List Event → Type 0}
    {Holds : List Event → List ℕ → Type 0} (work : (ℕ → List ℕ) → List ℕ → List ℕ → Type 0)
    (s : Stands old new sink ins reach Came Holds) (bytes : List ℕ) → s.bytes ≡ bytes
    → ((files : ℕ → List ℕ) → length s.places ≡ length ins → AreFed (length ins) files s.places s.events
    → work files s.places bytes)
    → Does work old new sink ins
does_by {old = old} {new = new} {sink = sink} {ins = ins} work s bytes same f =
    does_of sink work s.places s.events bytes s.all (subst (Passes sink old new ins s.places) same s.passes)
    s.taken s.present s.inputs
    (λ files are. f files s.all are)

-- ---- how a run ends

module _ {A R E : Type 0} (work : Work R E) (old new : State) (sink : Sink)
    (ins : List (List ℕ)) (reach : A → ℕ → ℕ) (next : A → Step) (Came : List Event → A → Type 0) (ending : A
    → Result R E) (now : A)
    (m : DoesWork work (length ins) reach next Came ending) where
  come_to_end : (told : Result R E) (result : Result R (RunStop E))
      → ((files : ℕ → List ℕ) (places bytes : List ℕ) → IsRightAtEnd work files places bytes told
      → work files result places bytes)
      → ComesToEnd old new sink ins reach next Came ending now told
      → Does (λ files places bytes. AllShort places × work files result places bytes) old new sink ins
  come_to_end told result same e =
      let s = e.runs.stands in
      does_by (λ files places bytes. AllShort places × work files result places bytes) s (gave s.events) s.holds
      (λ files all are. (
        e.runs.short,
        same files s.places (gave s.events)
            (subst (IsRightAtEnd work files s.places (gave s.events)) e.told_is
            (m.ends files s.places s.events now all are s.within s.came e.end)),
      ))

  stopped : (why : RunFault) → Stops old new sink ins reach next Came now why
      → Ends work old new sink ins (Err (Files why))
  stopped (TooLong input) g =
      let s = g.stands in (
        g.counts,
        g.place,
        does_by (λ files places bytes. (slice_index places input ≡ longest_file)
            × work files (Err (Files (TooLong input))) places bytes) s (gave s.events) s.holds
            (λ files all are. (
              g.gave,
              m.too_long files s.places s.events now input all are s.within
                  s.came g.place g.gave g.wants,
            )),
      )
  stopped (ReadFault input) (counts, inl o) = (counts, inl o)
  stopped (ReadFault input) (counts, inr g) =
      let s = g.stands in (
        counts,
        inr (
          g.place,
          does_by (λ files places bytes. AllShort places × work files (Err (Files (ReadFault input))) places bytes)
              s (gave s.events) s.holds
              (λ files all are. (
                g.short,
                m.unread files s.places s.events now input all are s.within
                    s.came g.place g.wants,
              )),
        ),
      )
  stopped WriteFault (counts, inl o) = (counts, inl o)
  stopped WriteFault (counts, inr g) =
      let s = g.stands in (
        counts,
        inr (does_by (λ files places bytes. AllShort places × work files (Err (Files WriteFault)) places bytes) s
            (gave s.events ++ g.front) s.holds
            (λ files all are. (
              g.short,
              m.unwritten files s.places s.events now (gave s.events ++ g.front) all are (record {
                mid = g.mid;
                gives = g.gives;
                came = s.came.0;
                late = g.late;
                only = g.only;
                came_late = s.came.1;
                within = s.within;
                front = g.front;
                is = refl;
                more = g.more;
                some = g.some;
                parts = (gave_more s.events g.late g.only).gave ∙ ap (λ (l : List ℕ). gave s.events ++ l) g.parts
                    ∙ sym (append_assoc (gave s.events) g.front g.more);
              }),
            ))),
      )

  pub ends_so : (result : Result R (RunStop E)) → RunsOnce old new sink ins reach next Came ending now result
      → Ends work old new sink ins result
  ends_so (Ok ran) e = (e.runs.counts, come_to_end (Ok ran) (Ok ran) (λ files places bytes w. w) e)
  ends_so (Err (Refused why)) e = (
    e.runs.counts,
    come_to_end (Err why) (Err (Refused why)) (λ files places bytes w. w)
        e,
  )
  ends_so (Err (Files why)) g = stopped why g
  ends_so (Err OutOfMemory) e = e

-- ---- what is so of the files of a run is so of those of the desk, if it tells

pub told_of : {old new : State} {sink : Sink} {ins : List (List ℕ)} {work : (ℕ → List ℕ) → List ℕ → List ℕ → Type 0}
    (Is : (ℕ → List ℕ) → Type 0) (d : Does work old new sink ins) → Is d.files
    → IfSome old.held (λ h. Is (file_at h ins))
told_of {old = old} Is d is = IfSome_then old.held d.told (λ h t. subst Is t.0 is)

pub works_of : {old new : State} {out : List ℕ} {ins : List (List ℕ)} {work : (ℕ → List ℕ) → List ℕ → List ℕ → Type 0}
    (Is : (ℕ → List ℕ) → List ℕ → Type 0) (d : Does work old new (Into out) ins) → Is d.files d.bytes
    → Works old new out ins d.places (λ h bytes. Is (file_at h ins) bytes)
works_of {old = old} {new = new} {out = out} {ins = ins} Is d is = record {
  opened = d.passes.opened;
  all = d.passes.all;
  names = d.passes.names;
  files = d.passes.files;
  created = d.passes.created;
  said = d.passes.said;
  holds = if_both old.held _ _ (λ h. (k : Held) × (new.held ≡ Some k)
      × ((bytes : List ℕ) × (get k.files out ≡ Some bytes) × Is (file_at h ins) bytes))
      (λ h t k. (
        k.0,
        k.1,
        (
          k.2.0,
          k.2.1,
          subst (Is (file_at h ins)) (sym k.2.2)
              (subst (λ (files : ℕ → List ℕ). Is files d.bytes) t.0 is),
        ),
      )) d.told d.passes.holds;
}
