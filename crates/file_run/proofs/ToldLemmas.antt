-- How a run ends that says what its machine gives.
use Rattle.std.proofs.Common.{◌≡◌, ◌≢◌, ℕ, ◌-◌, ◌≤◌, List, [], length, refl, ap, sym, subst, ◌∙◌, inl, inr, arith, Ok}
use Rattle.std.proofs.Common.{Err, Option, Some, None}
use Rattle.std.specs.Prelude.{Result, IfErr, OnOk}
use Rattle.ports.specs.declared.counts.Counts.{Counts}
use Rattle.ports.specs.declared.fault.FaultKind.{FaultKind}
use Rattle.ports.specs.Counts.{Rose, first_of}
use Rattle.ports.specs.Desk.{State, SameCounts, Keeps}
use Rattle.file_run.specs.Faults.{ReadsFail, WritesFail}
use Rattle.file_run.specs.Reading.{Reading, given_of, longest_file}
use Rattle.file_run.specs.Saying.{SaysBytes}
use Rattle.file_run.proofs.SayLemmas.{says_page}
use Rattle.file_run.specs.Events.{Event, fed}
use Rattle.file_run.specs.Steps.{Needs, FallsShort}
use Rattle.file_run.specs.Telling.{Tells, TellsAll, TellsTooMuch, ReadsFailAtLeast, StopsTelling}
use Rattle.file_run.specs.TellingOn.{Telling, Finishes, Breaks, TellsLast}
use Rattle.file_run.specs.declared.machine.Step.{Step}
use Rattle.file_run.specs.declared.stop.RunFault.{RunFault}
use Rattle.file_run.specs.declared.stop.RunFault.TheVariants.{TooLong, ReadFault, WriteFault}
use Rattle.file_run.proofs.OpenLemmas.{reads_fail, writes_fail}
use Rattle.file_run.proofs.TellLemmas.{telling_kept, tells_of, tells_all}

-- counts since the start
pub finishes_since : {A : Type 0} (next : A → Step) (start old new : State) (machine : A) (r : Reading)
    → SameCounts start old
    → Finishes next old new machine r → Finishes next start new machine r
finishes_since next start old new machine r calm f = record { end = f.end; short = f.short; counts = f.counts ∙ calm }

pub breaks_since : {A : Type 0} (next : A → Step) (start old new : State) (machine : A) (r : Reading) (why : RunFault)
    → SameCounts start old → Breaks next old new machine r why → Breaks next start new machine r why
breaks_since next start old new machine r (TooLong input) calm b = (b.0, b.1, b.2, b.3 ∙ calm)
breaks_since next start old new machine r (ReadFault input) calm b = (b.0, b.1, b.2, reads_fail start old new calm b.3)
breaks_since next start old new machine r WriteFault calm b = (b.0, writes_fail start old new calm b.1)

-- a run to the end of its machine
pub told_all : {A T : Type 0} (Came : List Event → A → Type 0) (next : A → Step) (start old new : State) (name : List ℕ)
    (machine : A) (r : Reading) (page : List ℕ) (told result : Result T RunFault)
    → OnOk told (Telling Came next start old name machine r page) → OnOk told (Finishes next start old machine r)
    → TellsLast old new page told result → OnOk result (TellsAll Came next start new name machine)
told_all {A = A} {T = T} Came next start old new name machine r page (Ok u) result t f (inl said) =
    subst (λ (x : Result T RunFault). OnOk x (TellsAll Came next start new name machine)) (sym said.0) (record {
      place = given_of r;
      tells = tells_all Came next machine start old new name r page (says_page old new page said.1.0) t;
      end = f.end;
      short = f.short;
      counts = said.1.1 ∙ f.counts;
    })
told_all {A = A} {T = T} Came next start old new name machine r page (Ok u) result t f (inr lost) =
    subst (λ (x : Result T RunFault). OnOk x (TellsAll Came next start new name machine)) (sym lost.0) tt
told_all {A = A} {T = T} Came next start old new name machine r page (Err (TooLong input)) result t f (inl said) =
    subst (λ (x : Result T RunFault). OnOk x (TellsAll Came next start new name machine)) (sym said.0) tt
told_all {A = A} {T = T} Came next start old new name machine r page (Err (TooLong input)) result t f (inr lost) =
    subst (λ (x : Result T RunFault). OnOk x (TellsAll Came next start new name machine)) (sym lost.0) tt
told_all {A = A} {T = T} Came next start old new name machine r page (Err (ReadFault input)) result t f last =
    subst (λ (x : Result T RunFault). OnOk x (TellsAll Came next start new name machine)) (sym last.0) tt
told_all {A = A} {T = T} Came next start old new name machine r page (Err WriteFault) result t f last =
    subst (λ (x : Result T RunFault). OnOk x (TellsAll Came next start new name machine)) (sym last.0) tt

-- what was told when a run broke off
abbrev pub BrokeOff : {A : Type 0} → (List Event → A → Type 0) → (A → Step) → State → State → List ℕ
    → A → Reading → List ℕ
    → RunFault → Type 0
BrokeOff Came next start now name machine r page why = (unsaid : List ℕ)
    × Telling Came next start now name machine r unsaid
    × (why ≢ WriteFault → unsaid ≡ page) × (why ≡ WriteFault → unsaid ≢ [])

abbrev stopped : {A : Type 0} → (List Event → A → Type 0) → (A → Step) → State → State → List ℕ → A → {T : Type 0}
    → Result T RunFault → Type 0
stopped Came next start new name machine result = IfErr result (StopsTelling Came next start new name machine)

-- what was left could not be said
lost_last : {A : Type 0} (Came : List Event → A → Type 0) (next : A → Step) (start old new : State) (name : List ℕ)
    (machine : A)
    (r : Reading) (page : List ℕ) → Telling Came next start old name machine r page → SameCounts start old
    → given_of r ≤ longest_file
    → Keeps old new → WritesFail old new → page ≢ [] → StopsTelling Came next start new name machine WriteFault
lost_last Came next start old new name machine r page t calm few keeps lost some = (
  writes_fail start old new calm lost,
  (
    given_of r,
    page,
    tells_of Came next machine start new name r page
        (telling_kept Came next machine start old new name r page keeps t),
    some,
    few,
  ),
)

-- a later fault is not the first
first_stays : (first : Option FaultKind) (one later : FaultKind) → first_of (first_of first one) later ≡ first_of
    first one
first_stays None one later = refl
first_stays (Some first) one later = refl

-- Reading failed, and then what was left was said.
fails_said : (start old new : State) → ReadsFail start old → SameCounts old new → ReadsFailAtLeast start new
fails_said start old new f same = grind arith

-- Reading failed, and then saying what was left.
fails_twice : (start old new : State) → ReadsFail start old → WritesFail old new → ReadsFailAtLeast start new
fails_twice start old new f w = grind (arith, Option, first_stays)

-- what waits in front of the machine
waits : {A : Type 0} (Came : List Event → A → Type 0) (next : A → Step) (start now : State) (name : List ℕ)
    (machine : A)
    (r : Reading) (page : List ℕ) (t : Telling Came next start now name machine r page) → length r.waiting ≡ given_of r
    - length (fed 0 t.events)
waits Came next start now name machine r page t = let e = t.taken in omega (arith, e)

-- all that a run told that broke off for another cause than writing
broke : {A : Type 0} (Came : List Event → A → Type 0) (next : A → Step) (start now : State) (name : List ℕ)
    (machine : A)
    (r : Reading) (page : List ℕ) (why : RunFault) → why ≢ WriteFault
    → BrokeOff Came next start now name machine r page why
    → Telling Came next start now name machine r page
broke Came next start now name machine r page why other b = subst (λ (l : List ℕ). Telling Came next
    start now name machine r l)
    (b.2 other) b.1

told_at : {A : Type 0} (Came : List Event → A → Type 0) (next : A → Step) (start was now : State) (name : List ℕ)
    (machine : A)
    (r : Reading) (page : List ℕ) (most : ℕ) → given_of r ≡ most → SaysBytes was now page
    → (t : Telling Came next start was name machine r page)
    → (x : Tells Came next start now name machine most []) × (x.events ≡ t.events)
unfolding tells_all
told_at Came next start was now name machine r page most same says t =
    subst (λ (n : ℕ). (x : Tells Came next start now name machine n []) × (x.events ≡ t.events)) same
    (tells_all Came next machine start was now name r page says t, refl)

-- a run over a file that is too long
too_much : {A : Type 0} (Came : List Event → A → Type 0) (next : A → Step) (start was now : State) (name : List ℕ)
    (machine : A)
    (r : Reading) (page : List ℕ) → given_of r ≡ longest_file → SaysBytes was now page
    → (t : Telling Came next start was name machine r page) → Needs (next machine) 0 (length r.waiting)
    → SameCounts start now
    → TellsTooMuch Came next start now name machine
too_much Came next start was now name machine r page same says t wants calm =
    let told : (x : Tells Came next start now name machine longest_file []) × (x.events ≡ t.events) =
    told_at Came next start was now name machine r page longest_file same says t in
    record {
      tells = told.0;
      wants = subst (λ (n : ℕ). Needs (next machine) 0 n) (waits Came next start was name machine r page t
          ∙ (let e = ap (λ (l : List Event). length (fed 0 l)) told.1 in omega (arith, e, same))) wants;
      counts = calm;
    }

-- a run that broke off, or whose last lines could not be said
pub told_fault : {A T : Type 0} (Came : List Event → A → Type 0) (next : A → Step) (start old new : State)
    (name : List ℕ)
    (machine : A) (r : Reading) (page : List ℕ) (told result : Result T RunFault)
    → OnOk told (Telling Came next start old name machine r page) → OnOk told (Finishes next start old machine r)
    → IfErr told (BrokeOff Came next start old name machine r page) → IfErr told (Breaks next start old machine r)
    → TellsLast old new page told result
    → IfErr result (StopsTelling Came next start new name machine)
unfolding tells_of tells_all telling_kept
told_fault {A = A} {T = T} Came next start old new name machine r page (Ok u) result t f broken cause (inl said) =
    subst (stopped Came next start new name machine) (sym said.0) tt
told_fault {A = A} {T = T} Came next start old new name machine r page (Ok u) result t f broken cause (inr lost) =
    subst (stopped Came next start new name machine) (sym lost.0)
    (lost_last Came next start old new name machine r page t f.counts (let s = f.short in omega (arith, s))
    lost.1.0 lost.1.1
    lost.1.2)
told_fault {A = A} {T = T} Came next start old new name machine r page (Err (TooLong input)) result t
    f broken cause (inl said) =
    let u = broke Came next start old name machine r page (TooLong input) (λ e. cc) broken in
    subst (stopped Came next start new name machine) (sym said.0) (
      cause.0,
      too_much Came next start old new name machine r page cause.1 (says_page old new page said.1.0) u cause.2 (said.1.1
          ∙ cause.3),
    )
told_fault {A = A} {T = T} Came next start old new name machine r page (Err (TooLong input)) result t
    f broken cause (inr lost) =
    let u = broke Came next start old name machine r page (TooLong input) (λ e. cc) broken in
    subst (stopped Came next start new name machine) (sym lost.0)
    (lost_last Came next start old new name machine r page u cause.3 (let s = cause.1 in omega (arith, s))
    lost.1.0 lost.1.1
    lost.1.2)
told_fault {A = A} {T = T} Came next start old new name machine r page (Err (ReadFault input)) result
    t f broken cause last =
    let u = broke Came next start old name machine r page (ReadFault input) (λ e. cc) broken in
    subst (stopped Came next start new name machine) (sym last.0) (
      cause.0,
      inr (elim last.1 [
        | inl said ↦ (
          fails_said start old new cause.3 said.1,
          record {
            place = given_of r;
            unsaid = [];
            tells = tells_all Came next machine start old new name r page (says_page old new page said.0) u;
            wants = subst (λ (n : ℕ). FallsShort (next machine) 0 n) (waits Came next start old name machine r page u)
                cause.2;
            short = cause.1;
            all = inl (refl, ap (λ (k : Counts). k.writes) said.1 ∙ ap (λ (k : Counts). k.writes) cause.3.others);
          },
        )
        | inr lost ↦ (
          fails_twice start old new cause.3 lost.1,
          record {
            place = given_of r;
            unsaid = page;
            tells = tells_of Came next machine start new name r page
                (telling_kept Came next machine start old new name r page lost.0 u);
            wants = subst (λ (n : ℕ). FallsShort (next machine) 0 n) (waits Came next start old name machine r page u)
                cause.2;
            short = cause.1;
            all = inr (
              lost.2,
              subst (λ (n : ℕ). Rose n new.counts.writes) (ap (λ (k : Counts). k.writes) cause.3.others) lost.1.rose,
            );
          },
        )
      ]),
    )
told_fault {A = A} {T = T} Came next start old new name machine r page (Err WriteFault) result t f broken cause last =
    subst (stopped Came next start new name machine) (sym last.0)
    (subst (λ (s : State). StopsTelling Came next start s name machine WriteFault) (sym last.1) (
      cause.1,
      (
        given_of r,
        broken.0,
        tells_of Came next machine start old name r broken.0 broken.1,
        broken.3 refl,
        (let s = cause.0 in omega (arith, s)),
      ),
    ))
