-- What follows of how a run ended, whatever its work is.
use Rattle.std.proofs.Common.{◌≡◌, ℕ, ◌+◌, ◌<◌, ◌≤◌, List, [], ◌++◌, length, Option, Some, None, refl, ap, sym, subst}
use Rattle.std.proofs.Common.{arith, append-nil, inl, inr}
use Rattle.std.specs.Prelude.{Result, Ok, Err, IfSome}
use Rattle.std.specs.FinMap.{get}
use Rattle.std.proofs.lemmas.Option.{IfSome_then}
use Rattle.ports.specs.Counts.{Rose}
use Rattle.ports.specs.Desk.{State, Held, SameCounts}
use Rattle.file_run.specs.Reading.{longest_file}
use Rattle.file_run.specs.Saying.{Grows}
use Rattle.file_run.proofs.SayLemmas.{grows_none, grows_same}
use Rattle.file_run.specs.FileRun.{file_at, OtherFiles, SameFiles, OpensInputs, Passes, FailsToBegin}
use Rattle.file_run.specs.Sink.{Sink, Into, Aloud, creates}
use Rattle.file_run.specs.Work.{Work, Ends}
use Rattle.file_run.specs.declared.stop.RunFault.TheVariants.{TooLong, ReadFault, WriteFault}
use Rattle.file_run.specs.declared.stop.RunStop.{RunStop}
use Rattle.file_run.specs.declared.stop.RunStop.TheVariants.{Refused, Files, OutOfMemory}

-- ---- what it leaves alone

-- No file has changed but the one that is written, which is created once at most; no more files were opened than are
-- read; and what was said before stands.
abbrev pub OthersOf : Sink → Option Held → Option Held → Type 0
OthersOf (Into out) old new = OtherFiles out old new
OthersOf Aloud old new = SameFiles old new

pub record LeavesAlone (old new : State) (sink : Sink) (ins : List (List ℕ)) : Type 0 where
  pub files : OthersOf sink old.held new.held
  pub created : new.created ≤ old.created + creates sink
  pub places : List ℕ
  pub opened : new.opened ≡ old.opened ++ places
  pub few : length places ≤ length ins
  pub text : List ℕ
  pub said : Grows old.said new.said text

same_others : (sink : Sink) (old new : Option Held) → SameFiles old new → OthersOf sink old new
same_others (Into out) None new e = e
same_others (Into out) (Some h) new s = (s.0, s.1, λ name apart. ap (λ files. get files name) s.2)
same_others Aloud old new s = s

same_desk : (o : Option Held) → SameFiles o o
same_desk None = refl
same_desk (Some h) = (h, refl, refl)

nothing_done : (old new : State) (sink : Sink) (ins : List (List ℕ)) → new ≡ old → LeavesAlone old new sink ins
nothing_done old new sink ins e = subst (λ (s : State). LeavesAlone old s sink ins) (sym e) (record {
  files = same_others sink old.held old.held (same_desk old.held);
  created = omega arith;
  places = [];
  opened = sym (append-nil old.opened);
  few = omega arith;
  text = [];
  said = grows_none old.said;
})

opened_only : (old new : State) (sink : Sink) (ins : List (List ℕ)) (count : ℕ) → OpensInputs old new ins count
    → LeavesAlone old new sink ins
opened_only old new sink ins count o = record {
  files = same_others sink old.held new.held o.files;
  created = (let c = o.created in omega (arith, c));
  places = o.places;
  opened = o.opened;
  few = (let f = o.few in let s = o.some in omega (arith, f, s));
  text = [];
  said = grows_same old.said new.said o.said;
}

not_begun : (old new : State) (sink : Sink) (ins : List (List ℕ)) → FailsToBegin sink old new ins
    → LeavesAlone old new sink ins
not_begun old new (Into out) ins f = record {
  files = f.files;
  created = (let c = f.created in omega (arith, c));
  places = f.places;
  opened = f.opened;
  few = (let a = f.all in omega (arith, a));
  text = [];
  said = grows_same old.said new.said f.said;
}
not_begun old new Aloud ins f = absurd f

passed : (old new : State) (sink : Sink) (ins : List (List ℕ)) (places bytes : List ℕ)
    → Passes sink old new ins places bytes
    → LeavesAlone old new sink ins
passed old new (Into out) ins places bytes w = record {
  files = w.files;
  created = (let c = w.created in omega (arith, c));
  places = places;
  opened = w.opened;
  few = (let a = w.all in omega (arith, a));
  text = [];
  said = grows_same old.said new.said w.said;
}
passed old new Aloud ins places bytes w = record {
  files = w.files;
  created = (let c = w.created in omega (arith, c));
  places = places;
  opened = w.opened;
  few = (let a = w.all in omega (arith, a));
  text = bytes;
  said = w.said;
}

pub leaves_alone : {R E : Type 0} (work : Work R E) (old new : State) (sink : Sink) (ins : List (List ℕ))
    (result : Result R (RunStop E)) → Ends work old new sink ins result → LeavesAlone old new sink ins
leaves_alone work old new sink ins (Ok ran) (counts, d) = passed old new sink ins d.places d.bytes d.passes
leaves_alone work old new sink ins (Err (Refused why)) (counts, d) = passed old new sink ins d.places d.bytes d.passes
leaves_alone work old new sink ins (Err (Files (TooLong input))) (counts, lt, d) = passed old new sink
    ins d.places d.bytes d.passes
leaves_alone work old new sink ins (Err (Files (ReadFault input))) (counts, inl o) = opened_only old
    new sink ins input o
leaves_alone work old new sink ins (Err (Files (ReadFault input))) (counts, inr (lt, d)) =
    passed old new sink ins d.places d.bytes d.passes
leaves_alone work old new sink ins (Err (Files WriteFault)) (counts, inl f) = not_begun old new sink ins f
leaves_alone work old new sink ins (Err (Files WriteFault)) (counts, inr d) = passed old new sink ins
    d.places d.bytes d.passes
leaves_alone work old new sink ins (Err OutOfMemory) e = nothing_done old new sink ins e

-- ---- why it ended so

-- The files ask for it, if the desk tells; or a file is too long; or a count rose; or memory ran out.
abbrev pub Decides : {R E : Type 0} → Work R E → State → State → List (List ℕ) → Result R (RunStop E) → Type 0
Decides work old new ins (Ok ran) = SameCounts old new
    × IfSome old.held (λ h. (places : List ℕ) × (bytes : List ℕ) × work (file_at h ins) (Ok ran) places bytes)
Decides work old new ins (Err (Refused why)) = SameCounts old new
    × IfSome old.held (λ h. (places : List ℕ) × (bytes : List ℕ) × work (file_at h ins) (Err (Refused why))
    places bytes)
Decides work old new ins (Err (Files (TooLong input))) =
    (input < length ins) × IfSome old.held (λ h. longest_file ≤ length (file_at h ins input))
Decides work old new ins (Err (Files (ReadFault input))) = Rose old.counts.reads new.counts.reads
Decides work old new ins (Err (Files WriteFault)) = Rose old.counts.writes new.counts.writes
Decides work old new ins (Err OutOfMemory) = new ≡ old

pub decides : {R E : Type 0} (work : Work R E) (old new : State) (sink : Sink) (ins : List (List ℕ))
    (result : Result R (RunStop E)) → Ends work old new sink ins result → Decides work old new ins result
decides work old new sink ins (Ok ran) (counts, d) = (
  counts,
  IfSome_then old.held d.told (λ h t. (
    d.places,
    d.bytes,
    subst (λ (f : ℕ → List ℕ). work f (Ok ran) d.places d.bytes)
        t.0 d.does.1,
  )),
)
decides work old new sink ins (Err (Refused why)) (counts, d) = (
  counts,
  IfSome_then old.held d.told
      (λ h t. (
        d.places,
        d.bytes,
        subst (λ (f : ℕ → List ℕ). work f (Err (Refused why)) d.places d.bytes)
            t.0 d.does.1,
      )),
)
decides work old new sink ins (Err (Files (TooLong input))) (counts, lt, d) = (
  lt,
  IfSome_then old.held d.told (λ h t.
      let within = d.within input lt in
      let most = d.does.0 in
      subst (λ (f : ℕ → List ℕ). longest_file ≤ length (f input)) t.0 (omega (arith, within, most))),
)
decides work old new sink ins (Err (Files (ReadFault input))) e = e.0.rose
decides work old new sink ins (Err (Files WriteFault)) e = e.0.rose
decides work old new sink ins (Err OutOfMemory) e = e
