-- Feeding a machine with what was read.
use Rattle.std.proofs.Common.{◌≡◌, ℕ, ◌+◌, ◌<◌, ◌≤◌, List, [], ◌∷◌, ◌++◌, length, take, drop, Option, Some, None, refl}
use Rattle.std.proofs.Common.{ap, sym, subst, ◌∙◌, arith, append_assoc}
use Rattle.std.specs.Prelude.{IfSome, option_map, true, false}
use Rattle.std.proofs.lemmas.Bool.{true≢false}
use Rattle.std.proofs.lemmas.List.{take-append-drop, length-take-le}
use Rattle.std.proofs.Math.Seq.{take-length, drop-length}
use Rattle.ports.specs.Desk.{State, left_of, has_run_out}
use Rattle.file_run.specs.Ahead.{IsAtEnd}
use Rattle.file_run.specs.Reading.{Reading, given_of, rest_of, longest_file, TakesNone}
use Rattle.file_run.specs.Events.{Event, Fed, Ended}
use Rattle.file_run.specs.Running.{Feeds, IsReader}
use Rattle.file_run.specs.Steps.{HasRoom}

-- nothing was taken since a state that is the same
pub none_since : (old mid after : State) (was is : Reading) → mid ≡ old → TakesNone mid after was is
    → TakesNone old after was is
none_since old mid after was is same none = subst (λ (s : State). TakesNone s after was is) same none

-- a reader from which bytes were taken
abbrev pub skipped : ℕ → Reading → Reading
skipped count r = record r { taken = r.taken + count; waiting = drop count r.waiting }

abbrev pub finished : Reading → Reading
finished r = record r { ended = true }

split_rest : (o : Option (List ℕ)) (n : ℕ) (xs : List ℕ) → option_map (λ l. xs ++ l) o ≡ option_map
    (λ rest. take n xs ++ rest)
    (option_map (λ l. drop n xs ++ l) o)
split_rest None n xs = refl
split_rest (Some l) n xs =
    ap Some (ap (λ (ys : List ℕ). ys ++ l) (sym (take-append-drop n xs)) ∙ append_assoc (take n xs) (drop n xs) l)

-- what is left of a file when some of its bytes were taken
rest_skip : (s : State) (r : Reading) (n : ℕ) → rest_of s r ≡ option_map (λ rest. take n r.waiting ++ rest)
    (rest_of s (skipped n r))
rest_skip s r n = split_rest (left_of s r.handle) n r.waiting

pub fed_by : {A : Type 0} (Becomes : A → List Event → A → Type 0) (old new : A) (before after : State)
    (was mid is : Reading)
    (input count : ℕ) (bytes : List ℕ) → bytes ≡ mid.waiting → count ≤ length bytes
    → TakesNone before after was mid → was.ended ≡ false → mid.handle ≡ was.handle
    → has_run_out after was.handle ≡ false
    → is ≡ skipped count mid
    → ((start : A) (events : List Event) → Becomes start events old
    → Becomes start (events ++ Fed input (take count bytes) ∷ []) new) → Feeds Becomes old new before after was is input
fed_by Becomes old new before after was mid is input count bytes same few none off reader going skip becomes = record {
  event = Fed input (take count bytes);
  becomes = becomes;
  count = count;
  taken = ap (λ (r : Reading). r.taken) skip ∙ ap (λ (n : ℕ). n + count) none.taken;
  marked = ap (λ (r : Reading). r.ended) skip ∙ none.ended;
  whole = λ on. absurd (true≢false (sym on ∙ ap (λ (r : Reading). r.ended) skip ∙ none.ended ∙ off));
  goes_on = λ open_still. ap (λ (r : Reading). has_run_out after r.handle) skip ∙ ap (has_run_out after) reader ∙ going;
  is_taken = (
    refl,
    sym (length-take-le count bytes few),
    sym none.rest ∙ rest_skip after mid count
        ∙ ap (λ (r : Reading). option_map (λ rest. take count mid.waiting ++ rest) (rest_of after r)) (sym skip)
        ∙ ap (λ (xs : List ℕ). option_map (λ rest. take count xs ++ rest) (rest_of after is)) (sym same),
  );
}

at_end : (o : Option (List ℕ)) (xs : List ℕ) → xs ≡ [] → IfSome o (λ left. left ≡ [])
    → IfSome (option_map (λ l. xs ++ l) o) (λ rest. rest ≡ [])
at_end None xs e h = tt
at_end (Some l) xs e h = ap (λ (ys : List ℕ). ys ++ l) e ∙ h

pub ended_by : {A : Type 0} (Becomes : A → List Event → A → Type 0) (old new : A) (before after : State)
    (was mid is : Reading)
    (input count : ℕ) (bytes : List ℕ) → bytes ≡ mid.waiting → count ≡ length mid.waiting
    → TakesNone before after was mid → mid.handle ≡ was.handle → IsAtEnd after was.handle
    → is ≡ finished (skipped count mid)
    → ((start : A) (events : List Event) → Becomes start events old
    → Becomes start (events ++ Ended input bytes ∷ []) new)
    → Feeds Becomes old new before after was is input
ended_by Becomes old new before after was mid is input count bytes same all none reader end skip becomes =
    let whole : take count mid.waiting ≡ bytes = ap (λ (n : ℕ). take n mid.waiting) all ∙ take-length mid.waiting
    ∙ sym same in
    let nothing : drop count mid.waiting ≡ [] = ap (λ (n : ℕ). drop n mid.waiting) all ∙ drop-length mid.waiting in
    record {
      event = Ended input bytes;
      becomes = becomes;
      count = count;
      taken = ap (λ (r : Reading). r.taken) skip ∙ ap (λ (n : ℕ). n + count) none.taken;
      marked = ap (λ (r : Reading). r.ended) skip;
      whole = λ on. ap (λ (r : Reading). r.waiting) skip ∙ nothing;
      goes_on = λ off. absurd (true≢false (sym (ap (λ (r : Reading). r.ended) skip) ∙ off));
      is_taken = (
        refl,
        all ∙ ap length (sym same),
        sym none.rest ∙ rest_skip after mid count
            ∙ ap (λ (r : Reading). option_map (λ rest. take count mid.waiting ++ rest) (rest_of after r)) (sym skip)
            ∙ ap (λ (xs : List ℕ). option_map (λ rest. xs ++ rest) (rest_of after is)) whole,
        subst (λ (r : Reading). IfSome (rest_of after r) (λ rest. rest ≡ [])) (sym skip)
            (at_end (left_of after mid.handle) (drop count mid.waiting) nothing
            (subst (λ (k : ℕ). IsAtEnd after k) (sym reader) end)),
      );
    }

pub room_for : {A : Type 0} (Becomes : A → List Event → A → Type 0) (m : A) (input : ℕ) (before after : State)
    (was mid : Reading)
    (bytes : List ℕ) → bytes ≡ mid.waiting → TakesNone before after was mid → given_of mid < longest_file
    → IsReader Becomes m input was → HasRoom Becomes m input (length bytes)
room_for Becomes m input before after was mid bytes same none small r = record {
  start = r.start;
  events = r.events;
  came = r.came;
  few = (let n = ap length same in let t = none.taken in let k = r.taken in omega (arith, n, t, k, small));
}
