-- Opening the inputs of a run and beginning its output.
use Rattle.std.proofs.Common.{◌≡◌, ℕ, zero, suc, ◌+◌, ◌<◌, Bool, true, false, List, [], ◌∷◌, ◌++◌, length, take}
use Rattle.std.proofs.Common.{Option, Some, None, refl, ap, sym, subst, ◌∙◌, inl, inr, arith, append_assoc, append-nil}
use Rattle.std.proofs.Common.{length-append}
use Rattle.std.specs.Prelude.{IsSome, slice_index_or, slice_set, option_map, option_and_then}
use Rattle.std.specs.FinMap.{get}
use Rattle.std.proofs.lemmas.Bool.{cases_eq}
use Rattle.std.proofs.lemmas.List.{length-map, length-take-le, get_or-take, get_or-map, map-append, length_push}
use Rattle.std.proofs.lemmas.List.{get_or_push, get_or_append_left, take_more, take_more_set}
use Rattle.terms.proofs.OptionLemmas.{was_some}
use Rattle.ports.specs.Desk.{State, Held, Files, SameCounts, Keeps, Opens, FailsToCreate, with_name, left_of, bytes_of}
use Rattle.ports.specs.Desk.{SameButFor, has_run_out}
use Rattle.file_run.specs.Faults.{ReadsFail, WritesFail}
use Rattle.file_run.specs.DeskLaws.{CreatesEmpty}
use Rattle.file_run.specs.Reading.{Reading, given_of, rest_of}
use Rattle.file_run.specs.FileRun.{file_at, AreStarts, AreNamed, OpensInputs, FailsToCreateOutput, SameFiles}
use Rattle.file_run.specs.FileRun.{OtherFiles}
use Rattle.file_run.specs.Running.{Start, reading_from, no_reading, reading_at, places_of, HasOut, HoldsOut, Reached}
use Rattle.file_run.specs.Running.{IsRead, Runs, HoldsIns, AreOpened, IsBegun}
use Rattle.file_run.specs.Sink.{AreOthers, Begins, creates}
use Rattle.file_run.specs.declared.output.OpenOutput.{OpenOutput}
use Rattle.file_run.proofs.SinkLemmas.{some_is, of_some, begins_at, holds_first, left_first, said_none}

-- counts that only rose since then
pub reads_fail : (a b c : State) → SameCounts a b → ReadsFail b c → ReadsFail a c
reads_fail a b c e f = grind arith

pub writes_fail : (a b c : State) → SameCounts a b → WritesFail b c → WritesFail a c
writes_fail a b c e f = grind arith

-- nothing is opened yet
pub none_opened : (s : State) → AreOpened s s [] []
none_opened s = record {
  opened = sym (append-nil s.opened);
  all = refl;
  begin = λ input lt. absurd (omega (arith, lt));
  fresh = λ input lt. absurd (omega (arith, lt));
  created = refl;
  said = refl;
  counts = refl;
  untold = λ e. e;
  tells = λ h held. record {
    is = h;
    held = held;
    files = refl;
    names = λ input lt. absurd (omega (arith, lt));
    present = λ input lt. absurd (omega (arith, lt));
    left = λ input lt. absurd (omega (arith, lt));
  };
}

-- below a list with one more, or at its end
pushed : {X : Type 0} (P : ℕ → X → Type 0) (xs : List X) (x d : X) → ((i : ℕ) → i < length xs
    → P i (slice_index_or xs i d))
    → P (length xs) x → (i : ℕ) → i < length (xs ++ x ∷ []) → P i (slice_index_or (xs ++ x ∷ []) i d)
pushed {X = X} P xs x d h last i lt =
    elim (cases_eq i (length xs)) [
      | inl same ↦ subst (λ (k : ℕ). P k (slice_index_or (xs ++ x ∷ []) k d)) (sym same)
          (subst (λ (y : X). P (length xs) y) (sym (get_or_push xs x d (length xs) refl)) last)
      | inr differ ↦
          let inside : i < length xs = let n = length_push xs x in omega (arith, n, lt, differ) in
          subst (λ (y : X). P i y) (sym (get_or_append_left xs (x ∷ []) d i inside)) (h i inside)
    ]

-- one more input is opened
ins_more : (old mid new : State) (h : Held) (ins : List (List ℕ)) (name : List ℕ) (handle : ℕ)
    → length mid.opened ≡ length old.opened + length ins → Opens mid new name handle → HoldsIns old mid h ins
    → HoldsIns old new h (ins ++ name ∷ [])
ins_more old mid new h ins name handle size o t =
    let held : new.held ≡ Some (with_name name t.is) = o.held ∙ ap (option_map (with_name name)) t.held in
    let sized : length (t.is.names ++ name ∷ []) ≡ length new.opened =
    of_some new.held (with_name name t.is) (λ h. length h.names ≡ length new.opened) held o.names in
    let count : length t.is.names ≡ length old.opened + length ins =
    let n = length_push t.is.names name in let m = ap length o.opened in let k = length_push mid.opened 0 in
    omega (arith, n, m, k, sized, size) in
    let found : get t.is.files name ≡ get h.files name = ap (λ (f : Files). get f name) t.files in
    let there : IsSome (get h.files name) =
    subst (λ (x : Option (List ℕ)). IsSome x) found
    (of_some mid.held t.is (λ h. IsSome (get h.files name)) t.held o.present) in
    record {
      is = with_name name t.is;
      held = held;
      files = t.files;
      names = pushed (λ i x. slice_index_or (t.is.names ++ name ∷ []) (length old.opened + i) [] ≡ x) ins name []
          (λ i lt. get_or_append_left t.is.names (name ∷ []) [] (length old.opened + i) (omega (arith, lt, count))
          ∙ t.names i lt)
          (get_or_push t.is.names name [] (length old.opened + length ins) count);
      present = pushed (λ i x. IsSome (get h.files x)) ins name [] t.present there;
      left = pushed (λ i x. left_of new (length old.opened + i) ≡ Some (bytes_of h.files x)) ins name []
          (λ i lt. o.others (length old.opened + i) (omega (arith, lt, size)) ∙ t.left i lt)
          (ap (left_of new) (let n = o.number in let e : length old.opened + length ins ≡ handle = omega
          (arith, n, size) in e)
          ∙ o.left ∙ ap (option_and_then (λ h. get h.files name)) t.held ∙ found
          ∙ was_some (get h.files name) [] there);
    }

fresh_more : (xs : List Bool) (i : ℕ) → slice_index_or (xs ++ false ∷ []) i false ≡ slice_index_or xs i false
fresh_more [] zero = refl
fresh_more [] (suc i) = refl
fresh_more (x ∷ xs) zero = refl
fresh_more (x ∷ xs) (suc i) = fresh_more xs i

-- a file that is opened leaves the others as far as they were read
pub runs_on : (old new : State) (name : List ℕ) (handle other : ℕ) → Opens old new name handle → has_run_out new other
    ≡ has_run_out old other
runs_on old new name handle other o = ap (λ (l : List Bool). slice_index_or l other false) o.ended
    ∙ fresh_more old.ended other

pub one_opened : (old mid new : State) (ins : List (List ℕ)) (readings : List Reading) (name : List ℕ) (handle : ℕ)
    (reading : Reading) → Opens mid new name handle → SameCounts mid new → reading ≡ reading_from handle
    → AreOpened old mid ins readings → AreOpened old new (ins ++ name ∷ []) (readings ++ reading ∷ [])
one_opened old mid new ins readings name handle reading o calm is was =
    let all = was.all in
    let size : length mid.opened ≡ length old.opened + length ins = let e = ap length was.opened in
    omega (arith, e, all, length-append old.opened (places_of readings), length-map readings given_of) in
    let given : given_of reading ≡ 0 = ap given_of is in
    let at : handle ≡ length old.opened + length readings = let n = o.number in omega (arith, n, size, all) in
    record {
      opened = o.opened ∙ ap (λ (l : List ℕ). l ++ 0 ∷ []) was.opened ∙ append_assoc old.opened (places_of readings)
          (0 ∷ [])
          ∙ ap (λ (n : ℕ). old.opened ++ (places_of readings ++ n ∷ [])) (sym given)
          ∙ ap (λ (l : List ℕ). old.opened ++ l) (sym (map-append given_of readings (reading ∷ [])));
      all = length_push readings reading ∙ ap (λ (n : ℕ). n + 1) all ∙ sym (length_push ins name);
      begin = pushed (λ i r. r ≡ reading_from (length old.opened + i)) readings reading no_reading was.begin
          (is ∙ ap reading_from at);
      fresh = pushed (λ i r. has_run_out new (length old.opened + i) ≡ false) readings reading no_reading
          (λ i lt. runs_on mid new name handle (length old.opened + i) o ∙ was.fresh i lt)
          (ap (has_run_out new) (sym at) ∙ o.fresh);
      created = o.created ∙ was.created;
      said = o.said ∙ was.said;
      counts = calm ∙ was.counts;
      untold = λ none. o.held ∙ ap (option_map (with_name name)) (was.untold none);
      tells = λ h held. ins_more old mid new h ins name handle size o (was.tells h held);
    }

-- no file is another after inputs were opened
same_files : (old mid new : State) (ins : List (List ℕ)) (readings : List Reading) (o : Option Held) → o ≡ old.held
    → new.held ≡ mid.held → AreOpened old mid ins readings → SameFiles o new.held
same_files old mid new ins readings None e f a = f ∙ a.untold (sym e)
same_files old mid new ins readings (Some h) e f a =
    let t = a.tells h (sym e) in (t.is, f ∙ t.held, t.files)

-- the places of readers that begin
all_starts : (old mid : State) (ins : List (List ℕ)) (readings : List Reading) → AreOpened old mid ins readings
    → AreStarts (places_of readings)
all_starts old mid ins readings a input lt =
    let inside : input < length readings = let n = length-map readings given_of in omega (arith, lt, n) in
    get_or-map given_of readings input no_reading 0 inside ∙ ap given_of (a.begin input inside)

-- what handles are named that were opened in turn
all_named : (old mid new : State) (ins some : List (List ℕ)) (readings : List Reading)
    → ((h k : Held) → old.held ≡ Some h → mid.held ≡ Some k → (l : Held) × (new.held ≡ Some l) × (l.names ≡ k.names))
    → ((input : ℕ) → input < length some → slice_index_or some input [] ≡ slice_index_or ins input [])
    → AreOpened old mid some readings → AreNamed old new ins (places_of readings)
all_named old mid new ins some readings held same a = some_is old.held (λ h. (k : Held) × (new.held ≡ Some k)
    × ((input : ℕ) → input < length (places_of readings) → slice_index_or k.names (length old.opened + input) []
    ≡ slice_index_or ins input [])) (λ h told.
    let t = a.tells h told in
    let l = held h t.is told t.held in (
      l.0,
      l.1,
      λ input lt.
          let inside : input < length some = let n = length-map readings given_of in let all = a.all in
          omega (arith, lt, n, all) in
          ap (λ (names : List (List ℕ)). slice_index_or names (length old.opened + input) []) l.2 ∙ t.names input inside
          ∙ same input inside,
    ))

opens_some : (old mid new : State) (ins some : List (List ℕ)) (readings : List Reading) (count : ℕ) → Keeps mid new
    → length some ≡ count → count < length ins
    → ((input : ℕ) → input < length some → slice_index_or some input [] ≡ slice_index_or ins input [])
    → AreOpened old mid some readings → OpensInputs old new ins count
opens_some old mid new ins some readings count k size few same a = record {
  places = places_of readings;
  opened = k.opened ∙ a.opened;
  some = length-map readings given_of ∙ a.all ∙ size;
  few = few;
  starts = all_starts old mid _ readings a;
  names = all_named old mid new ins some readings (λ h l told is. (l, k.held ∙ is, refl)) same a;
  files = same_files old mid new some readings old.held refl k.held a;
  created = k.created ∙ a.created;
  said = k.said ∙ a.said;
}

-- An input could not be opened.
pub opening_failed : (old mid new : State) (ins : List (List ℕ)) (count : ℕ) (readings : List Reading) → Keeps mid new
    → ReadsFail mid new → count < length ins → AreOpened old mid (take count ins) readings
    → ReadsFail old new × OpensInputs old new ins count
opening_failed old mid new ins count readings k f within a = (
  reads_fail old mid new a.counts f,
  let size = length-take-le count ins (omega (arith, within)) in
      opens_some old mid new ins (take count ins) readings count k size within
      (λ input lt. get_or-take count ins input [] (omega (arith, lt, size))) a,
)

-- The output could not be created.
other_files : (old mid new : State) (out : List ℕ) (ins : List (List ℕ)) (readings : List Reading) (o : Option Held)
    → o ≡ old.held → SameButFor out mid.held new.held → AreOpened old mid ins readings → OtherFiles out o new.held
other_files old mid new out ins readings None e s a = subst (λ (m : Option Held). SameButFor out m new.held)
    (a.untold (sym e)) s
other_files old mid new out ins readings (Some h) e s a =
    let t = a.tells h (sym e) in
    let only : SameButFor out (Some t.is) new.held = subst (λ (m : Option Held). SameButFor out m new.held) t.held s in
    (only.0, only.1, λ other differ. only.4 other differ ∙ ap (λ (f : Files). get f other) t.files)

pub creating_failed : (old mid new : State) (out : List ℕ) (ins : List (List ℕ)) (readings : List Reading)
    → FailsToCreate mid new out → WritesFail mid new → AreOpened old mid ins readings
    → WritesFail old new × FailsToCreateOutput old new out ins
creating_failed old mid new out ins readings f fault a = (
  writes_fail old mid new a.counts fault,
  record {
    places = places_of readings;
    opened = f.opened ∙ a.opened;
    all = length-map readings given_of ∙ a.all;
    starts = all_starts old mid _ readings a;
    names = all_named old mid new ins ins readings (λ h k told is.
        let only : SameButFor out (Some k) new.held = subst (λ (m : Option Held). SameButFor out m new.held)
        is f.held in
        (only.0, only.1, only.2)) (λ input lt. refl) a;
    files = other_files old mid new out ins readings old.held refl f.held a;
    created = f.created ∙ a.created;
    said = f.said ∙ a.said;
  },
)

-- The output was begun.
held_first : CreatesEmpty → (b : Start) (mid new : State) (h : Held) (out : OpenOutput) → mid.created ≡ b.desk.created
    → Begins b.sink mid new out → HoldsIns b.desk mid h b.ins → HoldsOut b h new []
held_first law b mid new h out same c t =
    let k = holds_first law b.sink h t.is mid new out t.held t.files c in
    record {
      is = k.is;
      held = k.held;
      names = λ input lt. ap (λ (l : List (List ℕ)). slice_index_or l (length b.desk.opened + input) []) k.names
          ∙ t.names input lt;
      has = subst (λ (n : ℕ). HasOut b.sink n h k.is []) same k.has;
    }

begins : CreatesEmpty → (b : Start) (mid new : State) (readings : List Reading) (out : OpenOutput)
    → Begins b.sink mid new out
    → AreOpened b.desk mid b.ins readings → Reached b new readings []
begins law b mid new readings out c a =
    let k = begins_at b.sink mid new out c in
    record {
      opened = k.opened ∙ a.opened;
      all = a.all;
      handles = λ input lt. ap (λ (r : Reading). r.handle) (a.begin input lt);
      created = k.created ∙ ap (λ (n : ℕ). n + creates b.sink) a.created;
      said = said_none b.sink b.desk.said new.said (k.said ∙ a.said);
      untold = λ untold. k.untold (a.untold untold);
      tells = λ h held. held_first law b mid new h out a.created c (a.tells h held);
    }

-- each file is whole before it is read
first_read : (b : Start) (mid new : State) (h : Held) (readings : List Reading) (out : OpenOutput) (input : ℕ)
    → AreOthers b.sink b.ins → Begins b.sink mid new out → AreOpened b.desk mid b.ins readings → b.desk.held ≡ Some h
    → input < length b.ins → IsRead (file_at h b.ins input) (rest_of new (reading_at readings input)) [] false
first_read b mid new h readings out input apart c a held lt =
    let t = a.tells h held in
    let all = a.all in
    let begin = a.begin input (omega (arith, lt, all)) in
    let handle : (reading_at readings input).handle ≡ length b.desk.opened + input = ap (λ (r : Reading). r.handle)
    begin in
    let name : slice_index_or t.is.names (reading_at readings input).handle [] ≡ slice_index_or b.ins input [] =
    ap (λ (k : ℕ). slice_index_or t.is.names k []) handle ∙ t.names input lt in
    let left : left_of new (reading_at readings input).handle ≡ Some (file_at h b.ins input) =
    left_first b.sink t.is mid new out _ (reading_at readings input).handle t.held name (apart input lt) c
    ∙ ap (left_of mid) handle ∙ t.left input lt in
    record {
      left = file_at h b.ins input;
      rest_is = ap (option_map (λ l. (reading_at readings input).waiting ++ l)) left
          ∙ ap (λ (r : Reading). Some (r.waiting ++ file_at h b.ins input)) begin;
      parts = refl;
      end = λ on. absurd (let z : false ≡ true = on in cc);
    }

-- A run begins.
pub runs_first : CreatesEmpty → (b : Start) (mid new : State) (readings : List Reading) (out : OpenOutput) (reach : ℕ
    → ℕ)
    → AreOthers b.sink b.ins → AreOpened b.desk mid b.ins readings → IsBegun mid new b.sink out
    → Runs b new readings reach []
runs_first law b mid new readings out reach apart a c = record {
  apart = apart;
  reached = begins law b mid new readings out c.begins a;
  counts = c.counts ∙ a.counts;
  short = λ input lt. let n = ap given_of (a.begin input lt) in omega (arith, n);
  taken = λ input lt. ap (λ (r : Reading). r.taken) (a.begin input lt);
  ended = λ input lt. ap (λ (r : Reading). r.ended) (a.begin input lt);
  within = λ input lt. let n = ap given_of (a.begin input lt) in omega (arith, n);
  whole = λ input lt on. ap (λ (r : Reading). r.waiting) (a.begin input lt);
  goes_on = λ input lt going. ap (λ (r : Reading). has_run_out new r.handle) (a.begin input lt)
      ∙ ap (λ (l : List Bool). slice_index_or l (length b.desk.opened + input) false)
      (begins_at b.sink mid new out c.begins).ended
      ∙ a.fresh input lt;
  relates = λ h held. record {
    present = (a.tells h held).present;
    reads = λ input lt. first_read b mid new h readings out input apart c.begins a held lt;
  };
}

-- the next input is opened
pub opened_next : (old mid new : State) (ins : List (List ℕ)) (readings : List Reading) (input : ℕ) (name item : List ℕ)
    (handle : ℕ) (reading : Reading) → input < length ins → input < length readings → name ≡ item
    → item ≡ slice_index_or ins input item
    → Opens mid new name handle → SameCounts mid new → reading ≡ reading_from handle
    → AreOpened old mid (take input ins) (take input readings)
    → AreOpened old new (take (input + 1) ins) (take (input + 1) (slice_set readings input reading))
opened_next old mid new ins readings input name item handle reading lt inside is at o calm r a =
    let named : take (input + 1) ins ≡ take input ins ++ name ∷ [] = take_more ins input item lt
    ∙ ap (λ (x : List ℕ). take input ins ++ x ∷ []) (sym at ∙ sym is) in
    let more : take (input + 1) (slice_set readings input reading) ≡ take input readings ++ reading ∷ [] =
    take_more_set readings input reading inside in
    subst (λ (l : List (List ℕ)). AreOpened old new l (take (input + 1) (slice_set readings input reading))) (sym named)
    (subst (λ (l : List Reading). AreOpened old new (take input ins ++ name ∷ []) l) (sym more)
    (one_opened old mid new (take input ins) (take input readings) name handle reading o calm r a))
