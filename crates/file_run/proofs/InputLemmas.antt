-- Bytes that wait, when more are read behind them and when some are taken.
use Rattle.std.proofs.Common.{◌≡◌, ◌≢◌, ℕ, Bool, false, ◌+◌, ◌-◌, ◌<◌, ◌≤◌, List, [], ◌∷◌, ◌++◌, length, take}
use Rattle.std.proofs.Common.{drop, Option, Some, None, refl, ap, sym, ◌∙◌, arith, append_assoc}
use Rattle.std.specs.Prelude.{IfSome, option_map, slice_index, slice_index_or, slice_set}
use Rattle.std.proofs.lemmas.List.{drop-take, drop-drop, length-append, length-take-le, set-get_or, get_or-set_other}
use Rattle.std.proofs.lemmas.List.{take-take, take-append-le}
use Rattle.std.proofs.lemmas.Option.{IfSome_then}
use Rattle.terms.proofs.PartLemmas.{part-add}
use Rattle.ports.specs.Desk.{State, Keeps, Reads, left_of, has_run_out}
use Rattle.file_run.specs.Ahead.{ReadsAhead, IsAtEnd}
use Rattle.file_run.specs.Waiting.{part_in}
use Rattle.file_run.specs.declared.input.Span.{Span}

-- what was taken from the front of a part
pub skipped : {X : Type 0} (xs : List X) (start len count : ℕ) → count ≤ len
    → take (len - count) (drop (start + count) xs)
    ≡ drop count (take len (drop start xs))
skipped xs start len count h =
    let split : count + (len - count) ≡ len = omega arith in
    sym (ap (λ (n : ℕ). drop count (take n (drop start xs))) (sym split) ∙ drop-take count (len - count) (drop start xs)
    ∙ ap (take (len - count)) (drop-drop count start xs))

-- a part of a front, by the front
front_part : {X : Type 0} (xs : List X) (start end : ℕ) → start ≤ end → drop start (take end xs)
    ≡ take (end - start) (drop start xs)
front_part xs start end h =
    let split : start + (end - start) ≡ end = omega arith in
    ap (λ (n : ℕ). drop start (take n xs)) (sym split) ∙ drop-take start (end - start) xs

-- the bytes that wait stay if what stands before the end stays
pub kept : {X : Type 0} (old new : List X) (start end : ℕ) → start ≤ end → take end new ≡ take end old
    → take (end - start) (drop start new) ≡ take (end - start) (drop start old)
kept old new start end h e = sym (front_part new start end h) ∙ ap (drop start) e ∙ front_part old start end h

-- a front stays in a longer list that is cut off behind it
pub still_front : {X : Type 0} (xs ys : List X) (n len : ℕ) → n ≤ length xs → n ≤ len
    → take n (take len (xs ++ ys)) ≡ take n xs
still_front xs ys n len h k = take-take n len (xs ++ ys) k ∙ take-append-le n xs ys h

-- the same bytes under another name
pub reads_as : (s t : State) (handle : ℕ) (was now : Span) (old new old' new' : List ℕ) → old ≡ old' → new ≡ new'
    → ReadsAhead s t handle (part_in was old) (part_in now new)
    → ReadsAhead s t handle (part_in was old') (part_in now new')
reads_as s t handle was now old new old' new' e f r = grind arith

-- more bytes behind those that wait
pub grown : {X : Type 0} (old new : List X) (start end n : ℕ) → start ≤ end → take end new ≡ take end old →
    take (end + n - start) (drop start new) ≡ take (end - start) (drop start old) ++ take n (drop end new)
grown old new start end n h e =
    let split : end + n - start ≡ (end - start) + n = omega arith in
    let there : start + (end - start) ≡ end = omega arith in
    ap (λ (k : ℕ). take k (drop start new)) split ∙ rw there at (part-add new start (end - start) n)
    ∙ ap (λ (front : List _). front ++ take n (drop end new)) (kept old new start end h e)

joined : (left : Option (List ℕ)) (waiting piece : List ℕ) → option_map (λ l. (waiting ++ piece) ++ l) left
    ≡ option_map (λ l. waiting ++ l) (option_map (λ l. piece ++ l) left)
joined None waiting piece = refl
joined (Some l) waiting piece = ap Some (append_assoc waiting piece l)

-- another handle is at its end only if it was
other_end : (old new : State) (handle n : ℕ) (buffer : List ℕ) → Reads old new handle n buffer → (other : ℕ)
    → other ≢ handle
    → has_run_out new other ≡ has_run_out old other
other_end old new handle n buffer r other apart = grind (arith, get_or-set_other)

-- a read went on
pub reads_on : (old new : State) (handle n : ℕ) (buffer waiting more : List ℕ) → Reads old new handle n buffer
    → n ≤ length buffer
    → more ≡ waiting ++ take n buffer → ReadsAhead old new handle waiting more
reads_on old new handle n buffer waiting more r inside is =
    let size : length more ≡ length waiting + n = ap length is ∙ length-append waiting (take n buffer)
    ∙ ap (λ (k : ℕ). length waiting + k) (length-take-le n buffer inside) in
    let by : n ≡ length more - length waiting = omega arith in
    record {
      held = r.held;
      said = r.said;
      opened = r.opened ∙ ap (λ (k : ℕ). slice_set old.opened handle (slice_index old.opened handle + k)) by;
      created = r.created;
      grown = omega arith;
      next = rw is (joined (left_of new handle) waiting (take n buffer)
          ∙ ap (option_map (λ l. waiting ++ l)) (sym r.next));
      others = r.others;
      others_end = λ other apart. other_end old new handle n buffer r other apart;
    }

pub left_kept : (old new : State) (handle : ℕ) → Keeps old new → left_of new handle ≡ left_of old handle
left_kept old new handle k = grind (arith, Option)

-- a failed read changed nothing
pub reads_not : (old new : State) (handle : ℕ) (waiting more : List ℕ) → handle < length old.opened → Keeps old new
    → more ≡ waiting → ReadsAhead old new handle waiting more
reads_not old new handle waiting more came k is =
    let none : slice_index old.opened handle + (length more - length waiting) ≡ slice_index old.opened
    handle = let size =
    ap length is in omega arith in
    record {
      held = k.held;
      said = k.said;
      opened = k.opened ∙ sym (ap (slice_set old.opened handle) none ∙ set-get_or old.opened handle 0);
      created = k.created;
      grown = let size = ap length is in omega arith;
      next = rw is (ap (option_map (λ l. waiting ++ l)) (left_kept old new handle k));
      others = λ other apart. left_kept old new other k;
      others_end = λ other apart. ap (λ (l : List Bool). slice_index_or l other false) k.ended;
    }

no_rest : (piece l : List ℕ) → piece ++ l ≡ [] → l ≡ []
no_rest [] l e = e
no_rest (x ∷ piece) l e = cc

end_after : (left now : Option (List ℕ)) (piece : List ℕ) → left ≡ option_map (λ l. piece ++ l) now
    → IfSome left (λ l. l ≡ [])
    → IfSome now (λ l. l ≡ [])
end_after left None piece e h = tt
end_after left (Some l) piece e h = let all : piece ++ l ≡ [] = rw e at h in no_rest piece l all

-- a read of no bytes shows the end of the file
pub at_end : (old new : State) (handle n : ℕ) (buffer : List ℕ) → Reads old new handle n buffer → n ≡ 0
    → IsAtEnd new handle
at_end old new handle n buffer r none = grind (arith, end_after, IfSome_then)

pub reads_same : (s : State) (handle : ℕ) (waiting : List ℕ) → handle < length s.opened
    → ReadsAhead s s handle waiting waiting
reads_same s handle waiting came = search (arith, reads_not)
