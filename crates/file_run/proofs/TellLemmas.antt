-- Saying what a machine gives, step by step.
use Rattle.std.proofs.Common.{◌≡◌, ◌≢◌, ℕ, Bool, ◌+◌, ◌-◌, ◌<◌, ◌≤◌, true, false, List, [], ◌∷◌, ◌++◌, length, Option}
use Rattle.std.proofs.Common.{Some, None, refl, ap, sym, subst, ◌∙◌, inl, inr, append_assoc, append-nil, arith}
use Rattle.std.specs.Prelude.{◌⊎◌, IsSome, option_map, option_and_then, slice_set, slice_index, slice_index_or}
use Rattle.std.specs.FinMap.{get}
use Rattle.terms.proofs.OptionLemmas.{was_some}
use Rattle.ports.specs.Desk.{State, Keeps, Says, Opens, left_of, bytes_of, has_run_out}
use Rattle.file_run.specs.Reading.{Reading, given_of, rest_of, ReadsOn, TakesNone}
use Rattle.file_run.specs.Saying.{SaysBytes}
use Rattle.file_run.proofs.SayLemmas.{grows_same, grows_then, grows_one, grows_as, grows_kept}
use Rattle.file_run.specs.declared.page.TheConstants.{PAGE}
use Rattle.file_run.specs.Events.{Event, Gave, fed, has_ended, gave}
use Rattle.file_run.specs.FileRun.{IsFed}
use Rattle.file_run.specs.Running.{IsTaken, Feeds, Gathers, reading_from}
use Rattle.file_run.specs.Telling.{StartsWith, SaidPages, HadRoom, MayWait, Tells}
use Rattle.file_run.specs.Steps.{Needs, FallsShort}
use Rattle.file_run.specs.declared.machine.TheConstants.{PIECE}
use Rattle.file_run.specs.declared.machine.Step.{Step}
use Rattle.file_run.specs.declared.machine.Step.TheVariants.{Read, Give}
use Rattle.std.proofs.lemmas.List.{length_push}
use Rattle.file_run.specs.TellingOn.{Telling, GivesWay}
use Rattle.file_run.proofs.EventLemmas.{gave_piece}
use Rattle.file_run.proofs.FedLemmas.{read_here, fed_here, ended_here, gives_none}
use Rattle.file_run.proofs.SinkLemmas.{some_is, of_some}
use Rattle.file_run.proofs.RunLemmas.{read_same, moved, is_fed}

-- where a reader comes to
read_further : (start was is : State) (r s : Reading) → ReadsOn was is r s → r.handle ≡ length start.opened
    → was.opened ≡ start.opened ++ given_of r ∷ [] → is.opened ≡ start.opened ++ given_of s ∷ []
read_further start was is r s on at opened =
    on.opened ∙ ap (λ (l : List ℕ). slice_set l r.handle (slice_index l r.handle + (given_of s - given_of r))) opened
    ∙ moved start.opened (r ∷ []) 0 s r.handle (omega (arith, at)) (omega arith) on.later

-- what a reader has left depends on what the desk holds and on the places of its handles
pub rest_kept : (old new : State) (r : Reading) → new.held ≡ old.held → new.opened ≡ old.opened
    → rest_of new r ≡ rest_of old r
rest_kept old new r held opened = rw (held, opened) refl

-- nothing waits
pub none_waits : (said : List ℕ) (events : List Event) → MayWait said [] events
none_waits said events = record { few = omega arith; since = inl refl }

-- the machine was fed since, and gave nothing
fed_since : (said : List ℕ) (events : List Event) (e : Event)
    → ((after : List Event) → gave (after ++ e ∷ []) ≡ gave after)
    → HadRoom said events → HadRoom said (events ++ e ∷ [])
fed_since said events e none h = grind (arith, append_assoc)

still_waits : (said unsaid : List ℕ) (events : List Event) (e : Event)
    → ((after : List Event) → gave (after ++ e ∷ []) ≡ gave after)
    → MayWait said unsaid events → MayWait said unsaid (events ++ e ∷ [])
still_waits said unsaid events e none w = grind (arith, fed_since)

-- a piece went onto the page, for which there was room, and the machine gave then or nothing was said
grown : {A : Type 0} (Becomes : A → List Event → A → Type 0) (next : A → Step) (begin old new : A) (start now : State)
    (name : List ℕ) (r : Reading) (waiting left : List ℕ) → Gathers Becomes old new waiting left
    → length waiting + PIECE ≤ PAGE
    → length left ≤ PAGE → (t : Telling (Becomes begin) next start now name old r waiting)
    → (t.early ≡ []) ⊎ (next t.mid ≡ Give) → Telling (Becomes begin) next start now name new r left
grown Becomes next begin old new start now name r waiting left g room few t going =
    let more = gave_piece g.piece t.events in
    record {
      events = t.events ++ Gave g.piece ∷ [];
      came = g.becomes begin t.events t.came;
      early = t.early;
      mid = t.mid;
      met = t.met;
      parts = more.gave ∙ ap (λ (l : List ℕ). l ++ g.piece) t.parts ∙ append_assoc (gave t.early) waiting g.piece
          ∙ ap (λ (l : List ℕ). gave t.early ++ l) (sym g.behind);
      going = inr going;
      said = t.said;
      handle = t.handle;
      opened = t.opened;
      created = t.created;
      held = t.held;
      present = t.present;
      taken = t.taken ∙ ap length (sym (more.fed 0));
      ended = t.ended ∙ sym (more.ended 0);
      goes_on = t.goes_on;
      reads = λ h told. read_same _ _ _ _ _ _ _ refl (more.fed 0) (more.ended 0) (t.reads h told);
      first = t.first;
      waits = record {
        few = few;
        since = inr (record {
          before = t.events;
          piece = g.piece;
          after = [];
          parts = refl;
          last = refl;
          waiting = waiting;
          waited = t.parts;
          room = room;
          pages = t.pages;
        });
      };
      pages = t.pages;
    }

-- If nothing waits, all that the machine gave so far is said.
unfoldable caught_up : {A : Type 0} (Came : List Event → A → Type 0) (next : A → Step) (machine : A) (start now : State)
    (name : List ℕ) (r : Reading) → Telling Came next start now name machine r []
    → Telling Came next start now name machine r []
caught_up Came next machine start now name r t = record {
  events = t.events;
  came = t.came;
  early = t.events;
  mid = machine;
  met = t.came;
  parts = sym (append-nil (gave t.events));
  going = inl refl;
  said = grows_as start.said now.said (gave t.early) (gave t.events) (sym (t.parts ∙ append-nil (gave t.early))) t.said;
  handle = t.handle;
  opened = t.opened;
  created = t.created;
  held = t.held;
  present = t.present;
  taken = t.taken;
  ended = t.ended;
  goes_on = t.goes_on;
  reads = t.reads;
  first = λ h told. let rest = t.reads h told in (rest.left, rest.parts, rest.end);
  waits = none_waits (gave t.events) t.events;
  pages = subst (λ (l : List ℕ). SaidPages l) (sym (t.parts ∙ append-nil (gave t.early))) t.pages;
}

still_going : {A : Type 0} (next : A → Step) (mid : A) (early : List Event) (x : ℕ) (xs : List ℕ) → (x ∷ xs ≡ [])
    ⊎ ((early ≡ []) ⊎ (next mid ≡ Give)) → (early ≡ []) ⊎ (next mid ≡ Give)
still_going next mid early x xs (inl none) = absurd (let e : x ∷ xs ≡ [] = none in cc)
still_going next mid early x xs (inr going) = going

pub page_grown : {A : Type 0} (Becomes : A → List Event → A → Type 0) (next : A → Step) (begin old new : A)
    (start now : State)
    (name : List ℕ) (r : Reading) (waiting left : List ℕ) → Gathers Becomes old new waiting left
    → length waiting + PIECE ≤ PAGE
    → length left ≤ PAGE → next old ≡ Give → Telling (Becomes begin) next start now name old r waiting
    → Telling (Becomes begin) next start now name new r left
unfolding caught_up
page_grown Becomes next begin old new start now name r [] left g room few giving t =
    grown Becomes next begin old new start now name r [] left g room few
    (caught_up (Becomes begin) next old start now name r t) (inr giving)
page_grown Becomes next begin old new start now name r (x ∷ xs) left g room few giving t =
    grown Becomes next begin old new start now name r (x ∷ xs) left g room few t
    (still_going next t.mid t.early x xs t.going)

pub some_page : (waiting : List ℕ) → PAGE < length waiting + PIECE → waiting ≢ []
some_page waiting full none = let e = ap length none in omega (arith, full, e)

-- All that waited was said, since there was no room behind it.
all_said : {A : Type 0} (Came : List Event → A → Type 0) (next : A → Step) (machine : A) (start was is : State)
    (name : List ℕ) (r : Reading) (waiting : List ℕ) → waiting ≢ [] → Says was is waiting
    → PAGE < length waiting + PIECE
    → Telling Came next start was name machine r waiting → Telling Came next start is name machine r []
all_said Came next machine start was is name r waiting some says full t = record {
  events = t.events;
  came = t.came;
  early = t.events;
  mid = machine;
  met = t.came;
  parts = sym (append-nil (gave t.events));
  going = inl refl;
  said = grows_as start.said is.said (gave t.early ++ waiting) (gave t.events) (sym t.parts)
      (grows_then start.said was.said is.said (gave t.early) waiting t.said (grows_one was is waiting some says));
  handle = t.handle;
  opened = says.opened ∙ t.opened;
  created = says.created ∙ t.created;
  held = says.held ∙ t.held;
  present = t.present;
  taken = t.taken;
  ended = t.ended;
  goes_on = λ off. ap (λ (l : List Bool). slice_index_or l r.handle false) says.ended ∙ t.goes_on off;
  reads = λ h told. read_same _ _ _ _ _ _ _ (rest_kept was is r says.held says.opened) refl refl (t.reads h told);
  first = λ h told. let rest = t.reads h told in (rest.left, rest.parts, rest.end);
  waits = none_waits (gave t.events) t.events;
  pages = inr (gave t.early, waiting, t.parts, full);
}

-- Nothing but counts changed.
unfoldable pub telling_kept : {A : Type 0} (Came : List Event → A → Type 0) (next : A → Step) (machine : A)
    (start was is : State)
    (name : List ℕ) (r : Reading) (page : List ℕ) → Keeps was is
    → Telling Came next start was name machine r page → Telling Came next start is name machine r page
telling_kept Came next machine start was is name r page keeps t = record {
  events = t.events;
  came = t.came;
  early = t.early;
  mid = t.mid;
  met = t.met;
  parts = t.parts;
  going = t.going;
  handle = t.handle;
  present = t.present;
  taken = t.taken;
  ended = t.ended;
  first = t.first;
  waits = t.waits;
  pages = t.pages;
  goes_on = λ off. ap (λ (l : List Bool). slice_index_or l r.handle false) keeps.ended ∙ t.goes_on off;
  said = grows_kept start.said was.said is.said (gave t.early) t.said keeps.said;
  opened = keeps.opened ∙ t.opened;
  created = keeps.created ∙ t.created;
  held = keeps.held ∙ t.held;
  reads = λ h told. read_same _ _ _ _ _ _ _ (rest_kept was is r keeps.held keeps.opened) refl refl (t.reads h told);
}

pub room_made : {A : Type 0} (Came : List Event → A → Type 0) (next : A → Step) (machine : A) (start was is : State)
    (name : List ℕ) (r : Reading) (waiting left : List ℕ) → GivesWay was is waiting left
    → Telling Came next start was name machine r waiting → Telling Came next start is name machine r left
unfolding telling_kept
room_made Came next machine start was is name r waiting left (inl kept) t =
    subst (λ (l : List ℕ). Telling Came next start is name machine r l) (sym kept.1)
    (telling_kept Came next machine start was is name r waiting kept.0 t)
room_made Came next machine start was is name r waiting left (inr said) t =
    subst (λ (l : List ℕ). Telling Came next start is name machine r l) (sym said.1)
    (all_said Came next machine start was is name r waiting (some_page waiting said.2) said.0 said.2 t)

-- The machine was fed.
pub telling_fed : {A : Type 0} (Becomes : A → List Event → A → Type 0) (next : A → Step) (begin old new : A)
    (start was is : State) (name : List ℕ) (r s : Reading) (input : ℕ) (page : List ℕ) → input ≡ 0 → ReadsOn was is r s
    → Feeds Becomes old new was is r s input
    → Telling (Becomes begin) next start was name old r page → Telling (Becomes begin) next start is name new s page
telling_fed Becomes next begin old new start was is name r s input page zero on f t =
    let taken = subst (λ (k : ℕ). IsTaken f.event k (rest_of was r) (rest_of is s) f.count) zero f.is_taken in
    record {
      events = t.events ++ f.event ∷ [];
      came = f.becomes begin t.events t.came;
      early = t.early;
      mid = t.mid;
      met = t.met;
      going = t.going;
      parts = gives_none f.event 0 f.count _ _ t.events taken ∙ t.parts;
      goes_on = f.goes_on;
      said = grows_kept start.said was.said is.said (gave t.early) t.said on.said;
      handle = on.handle ∙ t.handle;
      opened = read_further start was is r s on t.handle t.opened;
      created = on.created ∙ t.created;
      held = on.held ∙ t.held;
      present = t.present;
      taken = f.taken ∙ ap (λ (k : ℕ). k + f.count) t.taken ∙ sym (fed_here f.event 0 f.count _ _ t.events taken);
      ended = ended_here f.event 0 f.count _ _ _ _ t.events taken f.marked t.ended;
      reads = λ h told. read_here f.event _ 0 f.count _ _ t.events taken (t.reads h told);
      first = t.first;
      waits = still_waits (gave t.early) page t.events f.event (λ after. gives_none f.event 0 f.count _ _ after taken)
          t.waits;
      pages = t.pages;
    }

-- The file was read on, and the machine was not fed.
pub telling_read : {A : Type 0} (Came : List Event → A → Type 0) (next : A → Step) (machine : A) (start was is : State)
    (name : List ℕ) (r s : Reading) (page : List ℕ) → ReadsOn was is r s → TakesNone was is r s
    → has_run_out is r.handle ≡ false
    → Telling Came next start was name machine r page → Telling Came next start is name machine s page
telling_read Came next machine start was is name r s page on none going t = record {
  events = t.events;
  came = t.came;
  early = t.early;
  mid = t.mid;
  met = t.met;
  parts = t.parts;
  going = t.going;
  goes_on = λ off. ap (has_run_out is) on.handle ∙ going;
  said = grows_kept start.said was.said is.said (gave t.early) t.said on.said;
  handle = on.handle ∙ t.handle;
  opened = read_further start was is r s on t.handle t.opened;
  created = on.created ∙ t.created;
  held = on.held ∙ t.held;
  present = t.present;
  taken = none.taken ∙ t.taken;
  ended = none.ended ∙ t.ended;
  reads = λ h told. read_same _ _ _ _ _ _ _ none.rest refl refl (t.reads h told);
  first = t.first;
  waits = t.waits;
  pages = t.pages;
}

same_left : (o : Option (List ℕ)) → option_map (λ left. [] ++ left) o ≡ o
same_left None = refl
same_left (Some left) = refl

-- A file was opened for a reader.
pub telling_first : {A : Type 0} (Came : List Event → A → Type 0) (next : A → Step) (machine : A) (old new : State)
    (name : List ℕ) (handle : ℕ) (r : Reading) (page : List ℕ) → Opens old new name handle → r ≡ reading_from handle
    → page ≡ []
    → Came [] machine
    → Telling Came next old new name machine r page
telling_first Came next machine old new name handle r page o is none came = record {
  events = [];
  came = came;
  early = [];
  mid = machine;
  met = came;
  parts = sym none;
  going = inl none;
  said = grows_same old.said new.said o.said;
  goes_on = λ off. ap (λ (x : Reading). has_run_out new x.handle) is ∙ o.fresh;
  handle = ap (λ (r : Reading). r.handle) is ∙ o.number;
  opened = o.opened ∙ ap (λ (n : ℕ). old.opened ++ n ∷ []) (sym (ap given_of is));
  created = o.created;
  held = o.held;
  present = o.present;
  taken = ap (λ (r : Reading). r.taken) is;
  ended = ap (λ (r : Reading). r.ended) is;
  reads = λ h told.
      let there : IsSome (get h.files name) = of_some old.held h (λ h. IsSome (get h.files name)) told o.present in
      record {
        left = bytes_of h.files name;
        rest_is = ap (rest_of new) is ∙ same_left (left_of new handle) ∙ o.left
            ∙ ap (option_and_then (λ h. get h.files name)) told ∙ was_some (get h.files name) [] there;
        parts = refl;
        end = λ on. absurd (let z : false ≡ true = on in cc);
      };
  first = λ h told. (bytes_of h.files name, refl, λ on. absurd (let z : false ≡ true = on in cc));
  waits = record { few = (let n = ap length none in omega (arith, n)); since = inl none };
  pages = inl refl;
}

-- what a run has told
unfoldable pub tells_of : {A : Type 0} (Came : List Event → A → Type 0) (next : A → Step) (machine : A)
    (old new : State)
    (name : List ℕ) (r : Reading) (unsaid : List ℕ) → Telling Came next old new name machine r unsaid
    → Tells Came next old new name machine (given_of r) unsaid
tells_of Came next machine old new name r unsaid t = record {
  events = t.events;
  came = t.came;
  early = t.early;
  mid = t.mid;
  met = t.met;
  parts = t.parts;
  going = t.going;
  said = t.said;
  opened = record { present = t.present; held = t.held; opened = t.opened; created = t.created };
  inputs = some_is old.held (λ h. IsFed (bytes_of h.files name) (given_of r) (fed 0 t.events) (has_ended 0 t.events))
      (λ h told.
      is_fed (bytes_of h.files name) r.waiting (fed 0 t.events) (left_of new r.handle) (has_ended 0 t.events)
      (given_of r)
      (ap (λ (n : ℕ). n + length r.waiting) t.taken) (t.reads h told));
  first = some_is old.held (λ h. StartsWith (bytes_of h.files name) (fed 0 t.early) (has_ended 0 t.early)) t.first;
  waits = t.waits;
}

-- what a run has told, and then all that was left
unfoldable pub tells_all : {A : Type 0} (Came : List Event → A → Type 0) (next : A → Step) (machine : A)
    (start was is : State)
    (name : List ℕ) (r : Reading) (page : List ℕ) → SaysBytes was is page
    → Telling Came next start was name machine r page
    → Tells Came next start is name machine (given_of r) []
tells_all Came next machine start was is name r page says t = record {
  events = t.events;
  came = t.came;
  early = t.events;
  mid = machine;
  met = t.came;
  parts = sym (append-nil (gave t.events));
  going = inl refl;
  said = grows_as start.said is.said (gave t.early ++ page) (gave t.events) (sym t.parts)
      (grows_then start.said was.said is.said (gave t.early) page t.said says.grew);
  opened = record {
    present = t.present;
    held = says.held ∙ t.held;
    opened = says.opened ∙ t.opened;
    created = says.created ∙ t.created;
  };
  inputs = some_is start.held (λ h. IsFed (bytes_of h.files name) (given_of r) (fed 0 t.events) (has_ended 0 t.events))
      (λ h told.
      is_fed (bytes_of h.files name) r.waiting (fed 0 t.events) (left_of was r.handle) (has_ended 0 t.events)
      (given_of r)
      (ap (λ (n : ℕ). n + length r.waiting) t.taken) (t.reads h told));
  first = some_is start.held (λ h. StartsWith (bytes_of h.files name) (fed 0 t.events) (has_ended 0 t.events))
      (λ h told. let rest = t.reads h told in (rest.left, rest.parts, rest.end));
  waits = none_waits (gave t.events) t.events;
}

-- the one input
pub is_zero : (input inputs : ℕ) → input < inputs → inputs ≡ 1 → input ≡ 0
is_zero input inputs lt one = omega (arith, lt, one)

-- the reader's handle is there
pub place_within : {A : Type 0} (Came : List Event → A → Type 0) (next : A → Step) (start now : State) (name : List ℕ)
    (machine : A) (r : Reading) (page : List ℕ) → Telling Came next start now name machine r page
    → r.handle < length now.opened
place_within Came next start now name machine r page t =
    let n = ap length t.opened ∙ length_push start.opened (given_of r) in let h = t.handle in omega (arith, n, h)

pub needs : {A : Type 0} (next : A → Step) (new old : A) (s : Reading) (input least most : ℕ) → new ≡ old
    → next old ≡ Read input least most → input ≡ 0 → length s.waiting ≤ least → Needs (next new) 0 (length s.waiting)
needs next new old s input least most same wants zero few =
    subst (λ (x : Step). Needs x 0 (length s.waiting)) (sym (ap next same ∙ wants)) (zero, few)

pub falls_short : {A : Type 0} (next : A → Step) (new old : A) (s : Reading) (input least most : ℕ) → new ≡ old
    → next old ≡ Read input least most → input ≡ 0 → length s.waiting < least
    → FallsShort (next new) 0 (length s.waiting)
falls_short next new old s input least most same wants zero few =
    subst (λ (x : Step). FallsShort x 0 (length s.waiting)) (sym (ap next same ∙ wants)) (zero, few)
