-- Units that are kept go on with a run, and each byte of it that begins a packet begins whole packets up to the end.
use Rattle.std.proofs.Common.{◌≡◌, ℕ, zero, suc, ◌+◌, ◌-◌, ◌*◌, ◌%◌, ◌^◌, ◌<◌, ◌≤◌, Bool, true, false, List, [], ◌∷◌}
use Rattle.std.proofs.Common.{◌++◌, length, take, drop, Option, Some, refl, ap, sym, subst, ◌∙◌, inl, inr, ⊎_elim}
use Rattle.std.proofs.Common.{arith, append_assoc, append-nil, length-append, length-drop, eq-eqb, take-add}
use Rattle.std.specs.Prelude.{option_to_list, option_map, flat_map}
use Rattle.std.proofs.lemmas.List.{drop-drop, drop_at, take_all, drop_all}
use Rattle.std.proofs.lemmas.Bool.{cond-true, cond-false, cond_both, cases_lt, both_ways}
use Rattle.std.proofs.lemmas.Option.{none-some, same_Some}
use Rattle.ts_packet.specs.FieldsIn.{fields_in}
use Rattle.t2mi_stream.specs.Accepted.{Byte, packet_of}
use Rattle.t2mi_stream.specs.Units.{PipedUnit, piped_unit_of, unit_at, Cut, goes_on, with_piped_unit, cut_from, runs}
use Rattle.t2mi_stream.specs.Units.{bytes_from}
use Rattle.t2mi_stream.specs.Pipe.{JoinedByte, items, joined, first_start, part, unit, units_in, carried_in}
use Rattle.t2mi_stream.specs.Pipe.{carried_len}
use Rattle.t2mi_stream.specs.Pipes.{is_first}
use Rattle.t2mi_stream.specs.Received.{Fate, left_of, fate_of}
use Rattle.t2mi_stream.specs.Received.Fate.{Kept}
use Rattle.t2mi_stream.specs.Laws.{Among, ArePackets}
use Rattle.t2mi_stream.proofs.UnitLemmas.{runs_unit}
use Rattle.t2mi_stream.proofs.PipeLemmas.{part_size, length-items}
use Rattle.t2mi_stream.proofs.FitLemmas.{Fits, fits_append}
use Rattle.t2mi_stream.proofs.ReadsLemmas.{UnitLaws, unit_reads, carried_fits}

-- one more unit behind whole units
pub one_unit : (w : UnitLaws) (pid counter number : ℕ) (bytes : List ℕ) (xs : List JoinedByte) → pid < 2 ^ 13
    → counter < 16
    → 0 < length xs → length bytes ≡ 188 * number →
    runs pid (bytes ++ unit pid counter xs) ≡ with_piped_unit (runs pid bytes)
    (record { counter = counter; bytes = carried_in (188 * number) xs })
one_unit w pid counter number bytes xs p n some whole =
    let r = unit_reads w pid (188 * number) counter xs p n some in
    let at : unit_at (bytes ++ unit pid counter xs) number ≡ unit pid counter xs =
    ap (take 188) (drop_at bytes (unit pid counter xs) (188 * number) whole)
    ∙ take_all 188 (unit pid counter xs) (omega (arith, r.whole)) in
    runs_unit pid bytes (unit pid counter xs) number (omega (arith, whole)) (length-append bytes (unit pid counter xs)
    ∙ omega (arith, whole, r.whole))
    ∙ ap (λ (u : List ℕ). cut_from (runs pid bytes) (option_to_list (piped_unit_of pid (188 * number) u (fields_in u))))
    at
    ∙ ap (λ (o : Option PipedUnit). cut_from (runs pid bytes) (option_to_list o)) r.piped_unit

-- a piped unit in a run
pub entered : (cut : Cut) (c : PipedUnit) → (front : List Byte) × ((with_piped_unit cut c).run ≡ front ++ c.bytes)
    × ((with_piped_unit cut c).last ≡ Some c.counter)
entered cut c = cond_both {A = Cut} (goes_on cut.last c.counter) _ _ (λ k. (front : List Byte)
    × (k.run ≡ front ++ c.bytes)
    × (k.last ≡ Some c.counter))
    (λ _. (cut.run, refl, refl)) (λ _. ([], refl, refl))

-- Units that are kept go on with a run.
pub record GoesOn (pid : ℕ) (bytes : List ℕ) (units : List (List ℕ)) (xs : List JoinedByte) (size : ℕ) : Type 0 where
  pub more : List Byte
  pub run_is : (runs pid (bytes ++ flat_map (λ u. u) units)).run ≡ (runs pid bytes).run ++ more
  pub fits : Fits more (take size xs)

none_carried : (count : ℕ) → take {A = JoinedByte} (carried_len count []) [] ≡ []
none_carried count = take_nothing (carried_len count [])
  where
    take_nothing : (n : ℕ) → take {A = JoinedByte} n [] ≡ []
    take_nothing zero = refl
    take_nothing (suc n) = refl

none_along : (pid count : ℕ) (bytes : List ℕ) → GoesOn pid bytes [] [] (carried_len count [])
none_along pid count bytes = record {
  more = [];
  run_is = ap (λ (l : List ℕ). (runs pid l).run) (append-nil bytes) ∙ sym (append-nil (runs pid bytes).run);
  fits = subst (Fits []) (sym (none_carried count)) tt;
}

-- one unit, and then others
along : (pid : ℕ) (bytes u : List ℕ) (units : List (List ℕ)) (more carried : List Byte)
    → (runs pid ((bytes ++ u) ++ flat_map (λ u. u) units)).run ≡ (runs pid (bytes ++ u)).run ++ more →
    (runs pid (bytes ++ u)).run ≡ (runs pid bytes).run ++ carried
    → (runs pid (bytes ++ flat_map (λ u. u) (u ∷ units))).run
    ≡ (runs pid bytes).run ++ (carried ++ more)
along pid bytes u units more carried rest one =
    ap (λ (l : List ℕ). (runs pid l).run) (sym (append_assoc bytes u (flat_map (λ u. u) units)))
    ∙ rest ∙ ap (λ (l : List Byte). l ++ more) one ∙ append_assoc (runs pid bytes).run carried more

pub goes_along : (w : UnitLaws) (pid count steps counter last number : ℕ) (bytes : List ℕ) (xs : List JoinedByte)
    → pid < 2 ^ 13
    → length bytes ≡ 188 * number → (runs pid bytes).last ≡ Some last →
    counter ≡ (last + 1) % 16 → length xs ≤ steps → GoesOn pid bytes (take count (units_in pid steps counter xs)) xs
    (carried_len count xs)
unfolding units_in
goes_along w pid zero steps counter last number bytes xs p whole is n enough = record {
  more = [];
  run_is = ap (λ (l : List ℕ). (runs pid l).run) (append-nil bytes) ∙ sym (append-nil (runs pid bytes).run);
  fits = tt;
}
goes_along w pid (suc count) zero counter last number bytes [] p whole is n enough = none_along pid (suc count) bytes
goes_along w pid (suc count) zero counter last number bytes (x ∷ xs) p whole is n enough = absurd (omega arith)
goes_along w pid (suc count) (suc steps) counter last number bytes [] p whole is n enough = none_along
    pid (suc count) bytes
goes_along w pid (suc count) (suc steps) counter last number bytes (x ∷ xs) p whole is n enough =
    let all : List JoinedByte = x ∷ xs in
    let u : List ℕ = unit pid counter all in
    let small : counter < 16 = omega (arith, n) in
    let size = part_size all (omega arith) in
    let rest : List JoinedByte = drop (part all).size all in
    let next : ℕ = (counter + 1) % 16 in
    let r = unit_reads w pid (188 * number) counter all p small (omega arith) in
    let c : PipedUnit = record { counter = counter; bytes = carried_in (188 * number) all } in
    let cut : runs pid (bytes ++ u) ≡ with_piped_unit (runs pid bytes) c =
    one_unit w pid counter number bytes all p small (omega arith) whole in
    let goes : with_piped_unit (runs pid bytes) c ≡ record {
      ended = (runs pid bytes).ended;
      run = (runs pid bytes).run ++ c.bytes;
      last = Some counter;
    } =
    cond-true _ _ _ (ap (λ (o : Option ℕ). goes_on o counter) is ∙ eq-eqb counter ((last + 1) % 16) n) in
    let left : length rest ≤ steps = omega (arith, length-drop (part all).size all, size.0, enough) in
    let h = goes_along w pid count steps next counter (number + 1) (bytes ++ u) rest p
    (length-append bytes u ∙ omega (arith, whole, r.whole)) (ap (λ (k : Cut). k.last) (cut ∙ goes)) refl left in
    record {
      more = c.bytes ++ h.more;
      run_is = along pid bytes u (take count (units_in pid steps next rest)) h.more c.bytes h.run_is
          (ap (λ (k : Cut). k.run) (cut ∙ goes));
      fits = subst (Fits (c.bytes ++ h.more)) (sym (take-add (part all).size (carried_len count rest) all))
          (fits_append c.bytes h.more (take (part all).size all) (take (carried_len count rest) rest)
          (carried_fits (188 * number) all (omega arith)) h.fits);
    }

-- units that are kept, one behind another
pub kept_front : (units : List (List ℕ)) (fates : List Fate) (count : ℕ)
    → ((n : ℕ) → n < count → fate_of fates n ≡ Some Kept) →
    (others : List ℕ) × (left_of units fates ≡ flat_map (λ u. u) (take count units) ++ others)
kept_front units fates zero kept = (left_of units fates, refl)
kept_front [] fates (suc count) kept = ([], refl)
kept_front (u ∷ units) [] (suc count) kept = absurd (none-some Kept (kept 0 (omega arith)))
kept_front (u ∷ units) (f ∷ fates) (suc count) kept =
    let first : f ≡ Kept = same_Some f Kept (kept 0 (omega arith)) in
    let h = kept_front units fates count (λ n l. kept (suc n) (omega arith)) in (
      h.0,
      ap (λ (f : Fate). left_of (u ∷ units) (f ∷ fates)) first ∙ ap (λ (l : List ℕ). u ++ l) h.1
          ∙ sym (append_assoc u (flat_map (λ u. u) (take count units)) h.0),
    )

-- What is among the first is among all.
pub among_left : {X : Type 0} (x : X) (xs ys : List X) → Among x xs → Among x (xs ++ ys)
among_left x [] ys h = elim h [ ]
among_left x (y ∷ xs) ys (inl e) = inl e
among_left x (y ∷ xs) ys (inr h) = inr (among_left x xs ys h)

pub among_right : {X : Type 0} (x : X) (xs ys : List X) → Among x ys → Among x (xs ++ ys)
among_right x [] ys h = h
among_right x (y ∷ xs) ys h = inr (among_right x xs ys h)

-- Each byte that begins a packet begins whole packets up to the end.
abbrev pub Whole : List JoinedByte → Type 0
Whole xs = (t : ℕ) → is_first (drop t xs) ≡ true → (packets : List (List ℕ)) × (drop t xs ≡ joined packets)
    × ArePackets packets

pub whole_drop : (n : ℕ) (xs : List JoinedByte) → Whole xs → Whole (drop n xs)
whole_drop n xs h t first =
    let e = drop-drop t n xs in
    let r = h (n + t) (ap is_first (sym e) ∙ first) in (r.0, e ∙ r.1, r.2)

pub plain_first : (c : List ℕ) (t : ℕ) (more : List JoinedByte) → t < length c
    → is_first (drop t (items false c ++ more)) ≡ false
plain_first [] t more l = absurd (omega arith)
plain_first (b ∷ c) zero more l = refl
plain_first (b ∷ c) (suc t) more l = plain_first c t more (omega arith)

pub whole_joined : (packets : List (List ℕ)) → ArePackets packets → Whole (joined packets)
whole_joined [] all t first = ([], drop_all t [] (omega arith), tt)
whole_joined (c ∷ packets) all zero first = (c ∷ packets, refl, all)
whole_joined ([] ∷ packets) all (suc t) first = whole_joined packets all.1 (suc t) first
whole_joined ((b ∷ c) ∷ packets) all (suc t) first = ⊎_elim
    (λ (l : t < length c). absurd (both_ways _ (plain_first c t (joined packets) l) first))
    (λ (l : length c ≤ t).
    let size = length-items false c in
    let e : drop t (items false c ++ joined packets) ≡ drop (t - length c) (joined packets) =
    ap (λ (k : ℕ). drop k (items false c ++ joined packets)) (let q : t ≡ length c + (t - length c) = omega arith in q)
    ∙ sym (drop-drop (t - length c) (length c) (items false c ++ joined packets))
    ∙ ap (drop (t - length c)) (drop_at (items false c) (joined packets) (length c) size) in
    let r = whole_joined packets all.1 (t - length c) (ap is_first (sym e) ∙ first) in (r.0, e ∙ r.1, r.2))
    (cases_lt t (length c))

-- what a part of a list is
pub take_over : {X : Type 0} (a b : List X) (l : ℕ) → length a ≤ l → take l (a ++ b) ≡ a ++ take (l - length a) b
take_over [] b l h = let e : l ≡ l - 0 = omega arith in ap (λ (n : ℕ). take n b) e
take_over (x ∷ a) b zero h = absurd (omega arith)
take_over (x ∷ a) b (suc l) h =
    let e : l - length a ≡ suc l - suc (length a) = omega arith in
    ap (λ (r : List _). x ∷ r) (take_over a b l (omega arith) ∙ ap (λ (n : ℕ). a ++ take n b) e)

pub first_take : (n t : ℕ) (xs : List JoinedByte) → t < n → is_first (drop t (take n xs)) ≡ is_first (drop t xs)
first_take zero t xs l = absurd (omega arith)
first_take (suc n) zero [] l = refl
first_take (suc n) zero (x ∷ xs) l = refl
first_take (suc n) (suc t) [] l = refl
first_take (suc n) (suc t) (x ∷ xs) l = first_take n t xs (omega arith)

pub first_append : (t : ℕ) (xs ys : List JoinedByte) → t < length xs
    → is_first (drop t (xs ++ ys)) ≡ is_first (drop t xs)
first_append t [] ys l = absurd (omega arith)
first_append zero (x ∷ xs) ys l = refl
first_append (suc t) (x ∷ xs) ys l = first_append t xs ys (omega arith)

-- the first start, if there is one
pub record Least (xs : List JoinedByte) (t : ℕ) : Type 0 where
  pub place : ℕ
  pub least : first_start xs ≡ Some place
  pub before : place ≤ t
  pub first : is_first (drop place xs) ≡ true

pub least_first : (xs : List JoinedByte) (t : ℕ) → is_first (drop t xs) ≡ true → Least xs t
least_first [] t h = let none : List JoinedByte = [] in
    absurd (both_ways false refl (ap is_first (sym (drop_all t none (omega arith))) ∙ h))
least_first (x ∷ xs) t h = go x.first refl t h (λ s k. least_first xs s k)
  where
    go : (b : Bool) → x.first ≡ b → (t : ℕ) → is_first (drop t (x ∷ xs)) ≡ true
        → ((s : ℕ) → is_first (drop s xs) ≡ true → Least xs s) → Least (x ∷ xs) t
    go true e t h ih = record { place = 0; least = cond-true _ _ _ e; before = omega arith; first = e }
    go false e zero h ih = absurd (both_ways _ e h)
    go false e (suc t) h ih = let r = ih t h in record {
      place = suc r.place;
      least = cond-false _ _ _ e ∙ ap (option_map (λ (k : ℕ). k + 1)) r.least
          ∙ ap (λ (n : ℕ). Some n) (let q : r.place + 1 ≡ suc r.place = omega arith in q);
      before = let l = r.before in omega arith;
      first = r.first;
    }

pub place_at : (place at named t : ℕ) (bytes : List ℕ) (more : List Byte) → t < length bytes
    → (packet_of (drop t (bytes_from place at named bytes ++ more))).place ≡ place + (at + t)
place_at place at named t [] more l = absurd (omega arith)
place_at place at named zero (b ∷ bytes) more l = omega arith
place_at place at named (suc t) (b ∷ bytes) more l = place_at place (at + 1) named t bytes more (omega arith)
    ∙ omega arith

-- The packets of what stands between the first start and a packet.
pub between : (pre : List JoinedByte) (f : ℕ) → Whole pre → f ≤ length pre
    → (f < length pre → is_first (drop f pre) ≡ true)
    → (packets : List (List ℕ)) × (drop f pre ≡ joined packets) × ArePackets packets
between pre f whole l first = ⊎_elim
    (λ (less : f < length pre). whole f (first less))
    (λ (more : length pre ≤ f). ([], drop_all f pre more, tt))
    (cases_lt f (length pre))
