-- Records are counted as they are given.
use Rattle.std.proofs.Common.{◌≡◌, ◌≢◌, ◌⊎◌, ℕ, suc, ◌+◌, ◌^◌, ◌<◌, ◌≤◌, ◌==◌, Bool, true, false, cond, ◌&&◌, List, []}
use Rattle.std.proofs.Common.{◌∷◌, ◌++◌, length, refl, ap, sym, subst, ◌∙◌, inl, inr, arith, length-append}
use Rattle.std.proofs.Common.{append_assoc, append-nil}
use Rattle.std.specs.Prelude.{nat_lt, is_some, flat_map, Option}
use Rattle.std.specs.List.{filter}
use Rattle.std.proofs.lemmas.Bool.{lt-ltb, ltb-true, ltb-false, ne_eqb}
use Rattle.std.proofs.lemmas.List.{nil_from_length}
use Rattle.std.proofs.lemmas.List.Elements.{filter-append}
use Rattle.std.proofs.lemmas.List.Folds.{list_all-append}
use Rattle.std.proofs.lemmas.List.Concat.{flat_map-append}
use Rattle.terms.proofs.CaseLemmas.{bool_cases}
use Rattle.modulator.proofs.WaitLemmas.{number_at}
use Rattle.plp_config.specs.declared.config.Config.{Config}
use Rattle.plp_config.specs.declared.moment.TheConstants.{MOST_FRAMES}
use Rattle.frame_groups.specs.Laws.{AreFrom}
use Rattle.terms.specs.Lists.{IsPrefix}
use Rattle.frame_groups.specs.Modulated.{FrameRecord}
use Rattle.frame_groups.specs.declared.cause.MuteCause.{MuteCause}
use Rattle.frame_groups.specs.declared.waiting.Waiting.{Waiting}
use Rattle.open_group.specs.Written.{spelled}
use Rattle.modulator.specs.Laws.{DueFollow}
use Rattle.modulator.specs.StandsFor.{WaitsAs, TakesOf, records_due, bytes_due, mute_of}
use Rattle.modulate_run.specs.GivenRecord.{held, added}
use Rattle.modulate_run.specs.AsMachine.{IsNext, IsAll}
use Rattle.modulate_run.specs.Counted.{is_muted, first_number, counted}
use Rattle.modulate_run.specs.ModulateRun.{AreEarly}
use Rattle.modulate_run.specs.declared.stop.ModulateRan.{ModulateRan}
use Rattle.modulate_run.proofs.PlaceLemmas.{place, AllSome, place_within, place_end, place_all, place_of, none_left}
use Rattle.modulate_run.proofs.PlaceLemmas.{same_cut, same_front}

-- a record has its head at least
pub some_bytes : (c : Config) → AllSome (spelled c)
some_bytes c x = omega arith

-- ---- one more

held_small : (n : ℕ) → n < 2 ^ 32 → held n ≡ n
held_small n small = omega (arith, small)

first_push : (before : List FrameRecord) (next : FrameRecord) (w : Waiting) → next.number ≡ w.frame
    → cond (length before == 0) w.frame (first_number before) ≡ first_number (before ++ next ∷ [])
first_push [] next w e = sym e
first_push (x ∷ before) next w e = rw (ne_eqb (suc (length before)) 0 (λ z. absurd (omega (arith, z)))) refl

muted_few : (before : List FrameRecord) → length (filter is_muted before) ≤ length before
muted_few [] = omega arith
muted_few (x ∷ before) = bool_cases (is_muted x) (λ e. rw e (omega (arith, muted_few before)))
    (λ e. rw e (omega (arith, muted_few before)))

muted_push : (before : List FrameRecord) (next : FrameRecord) (mute : Option MuteCause) → mute_of next.content ≡ mute
    → length before < 2 ^ 31
    → cond (is_some mute) (held (length (filter is_muted before) + 1)) (length (filter is_muted before))
    ≡ length (filter is_muted (before ++ next ∷ []))
muted_push before next mute e small =
    let few = muted_few before in
    let all : length (filter is_muted (before ++ next ∷ [])) ≡ length (filter is_muted before)
    + length (filter is_muted (next ∷ [])) =
    ap length (filter-append is_muted before (next ∷ [])) ∙ length-append (filter is_muted before)
    (filter is_muted (next ∷ [])) in
    bool_cases (is_some mute)
    (λ on.
    let is : is_muted next ≡ true = ap is_some e ∙ on in
    let one : length (filter is_muted (next ∷ [])) ≡ 1 = rw is refl in
    rw on (held_small (length (filter is_muted before) + 1) (omega (arith, few, small)) ∙ omega (arith, all, one)))
    (λ off.
    let is : is_muted next ≡ false = ap is_some e ∙ off in
    let none : length (filter is_muted (next ∷ [])) ≡ 0 = rw is refl in
    rw off (omega (arith, all, none)))

same_ran : (a b c d e f : ℕ) → a ≡ b → c ≡ d → e ≡ f → ◌≡◌ {A = ModulateRan}
    (record { first = a; records = c; muted = e })
    (record { first = b; records = d; muted = f })
same_ran a b c d e f p q r = rw (p, q, r) refl

pub added_one : (before : List FrameRecord) (next : FrameRecord) (w : Waiting) → next.number ≡ w.frame
    → mute_of next.content
    ≡ w.mute → length before < 2 ^ 31 → added (counted before) w ≡ counted (before ++ next ∷ [])
added_one before next w number mute small =
    let size : length (before ++ next ∷ []) ≡ length before + 1 = length-append before (next ∷ []) in
    same_ran _ _ _ _ _ _ (first_push before next w number) (held_small (length before + 1) (omega (arith, small))
    ∙ sym size)
    (muted_push before next w.mute mute small)

pub early_one : (before : List FrameRecord) (next : FrameRecord) → AreEarly before → next.number < MOST_FRAMES
    → AreEarly (before ++ next ∷ [])
early_one before next early less =
    list_all-append (λ x. nat_lt x.number MOST_FRAMES) before (next ∷ [])
    ∙ ap (λ (b : Bool). b && (nat_lt next.number MOST_FRAMES && true)) early
    ∙ ap (λ (b : Bool). b && true) (lt-ltb next.number MOST_FRAMES less)

-- ---- the next record

-- how many bytes were taken of the records that wait or were given
taken_len : (c : Config) (ended : Bool) (bytes taken : List ℕ) (w : Waiting) (a : WaitsAs c ended bytes taken w)
    → length taken ≡ length (flat_map (spelled c) a.before) + length a.part
taken_len c ended bytes taken w a = ap length a.taken_is ∙ length-append (flat_map (spelled c) a.before) a.part

part_less : (c : Config) (ended : Bool) (bytes taken : List ℕ) (w : Waiting) (a : WaitsAs c ended bytes taken w)
    → length (spelled c a.next) ≡ length a.part + length a.rest
part_less c ended bytes taken w a = ap length a.cut ∙ length-append a.part a.rest

-- the same record waits, and as much of it is left
same_rest : (c : Config) (ended : Bool) (bytes taken : List ℕ) (v w : Waiting) (a : WaitsAs c ended bytes taken v)
    (b : WaitsAs c ended bytes taken w) → length b.rest ≡ length a.rest
same_rest c ended bytes taken v w a b =
    let size : length b.before ≡ length a.before = sym (place_of c ended bytes taken w b)
    ∙ place_of c ended bytes taken v a in
    let s = same_cut a.before b.before a.next b.next a.after b.after size (sym a.all ∙ b.all) in
    let p = taken_len c ended bytes taken v a in
    let q = taken_len c ended bytes taken w b in
    let m = part_less c ended bytes taken v a in
    let n = part_less c ended bytes taken w b in
    let same : length (flat_map (spelled c) b.before) ≡ length (flat_map (spelled c) a.before) =
    ap (λ (xs : List FrameRecord). length (flat_map (spelled c) xs)) s.same_before in
    let next : length (spelled c b.next) ≡ length (spelled c a.next) =
    ap (λ (x : FrameRecord). length (spelled c x)) s.same_next in
    omega (arith, p, q, m, n, same, next)

-- as many bytes of it as were given
pub rest_of : (c : Config) (ended : Bool) (bytes taken : List ℕ) (w : Waiting) (a : WaitsAs c ended bytes taken w)
    (number count : ℕ) → TakesOf c ended bytes taken number count → count ≤ length a.rest
rest_of c ended bytes taken w a number count t = let s = same_rest c ended bytes taken w t.waiting a t.waits in let l =
    t.within in omega (arith, s, l)

before_few : DueFollow → (c : Config) (ended : Bool) (bytes taken : List ℕ) (w : Waiting)
    (a : WaitsAs c ended bytes taken w)
    → w.frame < MOST_FRAMES → length a.before < 2 ^ 31
before_few follow c ended bytes taken w a small =
    let f = follow c ended bytes in
    let n = number_at f.0 a.before a.next a.after (subst (AreFrom f.0) a.all f.1) in
    let m = a.number in
    omega (arith, n, m, small)

-- how many were given once some of the bytes left were
moved : (c : Config) (ended : Bool) (bytes taken piece : List ℕ) (w : Waiting) (a : WaitsAs c ended bytes taken w)
    → length piece ≤ length a.rest
    → (place (spelled c) (records_due c ended bytes) (length (taken ++ piece)) ≡ length a.before)
    ⊎ ((place (spelled c) (records_due c ended bytes) (length (taken ++ piece)) ≡ length a.before + 1)
    × (length piece ≡ length a.rest))
moved c ended bytes taken piece w a few =
    let t = taken_len c ended bytes taken w a in
    let p = part_less c ended bytes taken w a in
    let both = length-append taken piece in
    let at : length (taken ++ piece) ≡ length (flat_map (spelled c) a.before) + (length a.part + length piece) =
    omega (arith, both, t) in
    let here : place (spelled c) (records_due c ended bytes) (length (taken ++ piece))
    ≡ place (spelled c) (a.before ++ a.next ∷ a.after)
    (length (flat_map (spelled c) a.before) + (length a.part + length piece)) =
    ap (λ (xs : List FrameRecord). place (spelled c) xs (length (taken ++ piece))) a.all
    ∙ ap (place (spelled c) (a.before ++ a.next ∷ a.after)) at in
    bool_cases (nat_lt (length piece) (length a.rest))
    (λ less. let l = ltb-true _ _ less in
    inl (here ∙ place_within (spelled c) a.before a.next a.after (length a.part + length piece) (omega (arith, l, p))))
    (λ not.
    let l = ltb-false (length piece) (length a.rest) not in
    let all : length piece ≡ length a.rest = omega (arith, l, few) in
    let end : length a.part + length piece ≡ length (spelled c a.next) = omega (arith, all, p) in
    inr (
      here ∙ ap (λ (k : ℕ). place (spelled c) (a.before ++ a.next ∷ a.after)
          (length (flat_map (spelled c) a.before) + k)) end
          ∙ place_end (spelled c) a.before a.next a.after (some_bytes c),
      all,
    ))

frames_differ : DueFollow → (c : Config) (ended : Bool) (bytes taken taken' : List ℕ) (w w' : Waiting)
    (a : WaitsAs c ended bytes taken w) (b : WaitsAs c ended bytes taken' w') → w'.frame + length a.before
    ≡ w.frame + length b.before
frames_differ follow c ended bytes taken taken' w w' a b =
    let f = follow c ended bytes in
    let m = number_at f.0 a.before a.next a.after (subst (AreFrom f.0) a.all f.1) in
    let n = number_at f.0 b.before b.next b.after (subst (AreFrom f.0) b.all f.1) in
    let p = a.number in
    let q = b.number in
    omega (arith, m, n, p, q)

given_one : (c : Config) (before : List FrameRecord) (next : FrameRecord) (all : List FrameRecord)
    → all ≡ before ++ next ∷ []
    → length (flat_map (spelled c) all) ≡ length (flat_map (spelled c) before) + length (spelled c next)
given_one c before next all e =
    ap (λ (xs : List FrameRecord). length (flat_map (spelled c) xs)) e
    ∙ ap length (flat_map-append (spelled c) before (next ∷ []))
    ∙ length-append (flat_map (spelled c) before) (flat_map (spelled c) (next ∷ []))
    ∙ ap (λ (k : ℕ). length (flat_map (spelled c) before) + k) (ap length (append-nil (spelled c next)))

-- some bytes of the record that waits were given, and it waits still
pub still_next : DueFollow → (c : Config) (ended : Bool) (bytes taken piece : List ℕ) (w w' : Waiting)
    (ran : ModulateRan)
    (n : IsNext c ended bytes taken w ran) → w.frame < MOST_FRAMES
    → (a : WaitsAs c ended bytes (taken ++ piece) w') → length piece ≤ length n.waits.rest → w'.frame ≡ w.frame
    → IsNext c ended bytes (taken ++ piece) w' ran
still_next follow c ended bytes taken piece w w' ran n small a few same =
    let differ = frames_differ follow c ended bytes taken (taken ++ piece) w w' n.waits a in
    let size : length a.before ≡ length n.waits.before = omega (arith, differ, same) in
    let cut = same_cut n.waits.before a.before n.waits.next a.next n.waits.after a.after size (sym n.waits.all
    ∙ a.all) in
    record {
      waits = a;
      ran_is = n.ran_is ∙ ap counted (sym cut.same_before);
      early = subst AreEarly (sym cut.same_before) n.early;
      late = λ e. absurd (omega (arith, e, same, small));
    }

-- it was given whole, and the next one waits
pub then_next : DueFollow → (c : Config) (ended : Bool) (bytes taken piece : List ℕ) (w w' : Waiting)
    (ran : ModulateRan)
    (n : IsNext c ended bytes taken w ran) → w.frame < MOST_FRAMES
    → (a : WaitsAs c ended bytes (taken ++ piece) w') → length piece ≤ length n.waits.rest → w'.frame ≢ w.frame
    → IsNext c ended bytes (taken ++ piece) w' (added ran w)
then_next follow c ended bytes taken piece w w' ran n small a few other =
    let differ = frames_differ follow c ended bytes taken (taken ++ piece) w w' n.waits a in
    let at = place_of c ended bytes (taken ++ piece) w' a in
    go differ at (moved c ended bytes taken piece w n.waits few)
  where
    go : w'.frame + length n.waits.before ≡ w.frame + length a.before
        → place (spelled c) (records_due c ended bytes) (length (taken ++ piece)) ≡ length a.before
        → (place (spelled c) (records_due c ended bytes) (length (taken ++ piece)) ≡ length n.waits.before)
        ⊎ ((place (spelled c) (records_due c ended bytes) (length (taken ++ piece)) ≡ length n.waits.before + 1)
        × (length piece ≡ length n.waits.rest))
        → IsNext c ended bytes (taken ++ piece) w' (added ran w)
    go differ at (inl same) = absurd (other (omega (arith, differ, at, same)))
    go differ at (inr (one, all)) =
        let v = n.waits in
        let size : length a.before ≡ length (v.before ++ v.next ∷ []) =
        omega (arith, at, one, length-append v.before (v.next ∷ [])) in
        let before : a.before ≡ v.before ++ v.next ∷ [] =
        same_front (v.before ++ v.next ∷ []) v.after a.before (a.next ∷ a.after) size
        (append_assoc v.before (v.next ∷ []) v.after ∙ sym v.all ∙ a.all) in
        let number : v.next.number < MOST_FRAMES = let m = v.number in omega (arith, m, small) in
        let given : length (flat_map (spelled c) a.before) ≡ length (flat_map (spelled c) v.before) + length
        (spelled c v.next) =
        given_one c v.before v.next a.before before in
        let t = taken_len c ended bytes taken w v in
        let u = taken_len c ended bytes (taken ++ piece) w' a in
        let p = part_less c ended bytes taken w v in
        let both = length-append taken piece in
        let none : length a.part ≡ 0 = omega (arith, given, t, u, p, both, all) in
        record {
          waits = a;
          ran_is = ap (λ (r : ModulateRan). added r w) n.ran_is ∙ added_one v.before v.next w v.number v.mute
              (before_few follow c ended bytes taken w v small) ∙ ap counted (sym before);
          early = subst AreEarly (sym before) (early_one v.before v.next n.early number);
          late = λ e. nil_from_length a.part none;
        }

-- it was given whole, and was the last one
pub then_all : DueFollow → (c : Config) (ended : Bool) (bytes taken piece : List ℕ) (w : Waiting) (ran : ModulateRan)
    (n : IsNext c ended bytes taken w ran) → w.frame < MOST_FRAMES
    → bytes_due c ended bytes ≡ taken ++ piece → length piece ≤ length n.waits.rest
    → IsAll c ended bytes (taken ++ piece) (added ran w)
then_all follow c ended bytes taken piece w ran n small all few =
    let v = n.waits in
    let t = taken_len c ended bytes taken w v in
    let p = part_less c ended bytes taken w v in
    let both = length-append taken piece in
    let parts : bytes_due c ended bytes ≡ flat_map (spelled c) v.before ++ flat_map (spelled c) (v.next ∷ v.after) =
    ap (flat_map (spelled c)) v.all ∙ flat_map-append (spelled c) v.before (v.next ∷ v.after) in
    let size = ap length (sym all ∙ parts) in
    let sum = length-append (flat_map (spelled c) v.before) (flat_map (spelled c) (v.next ∷ v.after)) in
    let more = length-append (spelled c v.next) (flat_map (spelled c) v.after) in
    let none : v.after ≡ [] = none_left (spelled c) v.after (some_bytes c)
    (omega (arith, t, p, both, size, sum, more, few)) in
    let is : records_due c ended bytes ≡ v.before ++ v.next ∷ [] =
    v.all ∙ ap (λ (xs : List FrameRecord). v.before ++ v.next ∷ xs) none in
    let number : v.next.number < MOST_FRAMES = let m = v.number in omega (arith, m, small) in
    record {
      all = all;
      ran_is = ap (λ (r : ModulateRan). added r w) n.ran_is ∙ added_one v.before v.next w v.number v.mute
          (before_few follow c ended bytes taken w v small) ∙ ap counted (sym is);
      early = subst AreEarly (sym is) (early_one v.before v.next n.early number);
    }

-- ---- bytes come, or the end does, when no record waits

pub fed_next : (c : Config) (ended : Bool) (bytes more taken : List ℕ) (w : Waiting) (ran : ModulateRan)
    → IsPrefix (records_due c false bytes) (records_due c ended (bytes ++ more)) → IsAll c false bytes taken ran
    → WaitsAs c ended (bytes ++ more) taken w → IsNext c ended (bytes ++ more) taken w ran
fed_next c ended bytes more taken w ran prefix was a =
    let due = records_due c false bytes in
    let at : place (spelled c) (records_due c ended (bytes ++ more)) (length taken) ≡ length due =
    ap (λ (xs : List FrameRecord). place (spelled c) xs (length taken)) prefix.1
    ∙ ap (λ (l : List ℕ). place (spelled c) (due ++ prefix.0) (length l)) (sym was.all)
    ∙ place_all (spelled c) due prefix.0 (some_bytes c) in
    let size : length a.before ≡ length due = sym (place_of c ended (bytes ++ more) taken w a) ∙ at in
    let before : a.before ≡ due = same_front due prefix.0 a.before (a.next ∷ a.after) size (sym prefix.1 ∙ a.all) in
    let given = ap (λ (xs : List FrameRecord). length (flat_map (spelled c) xs)) before in
    let t = taken_len c ended (bytes ++ more) taken w a in
    let whole = ap length was.all in
    record {
      waits = a;
      ran_is = was.ran_is ∙ ap counted (sym before);
      early = subst AreEarly (sym before) was.early;
      late = λ e. nil_from_length a.part (omega (arith, given, t, whole));
    }

pub fed_all : (c : Config) (ended : Bool) (bytes more taken : List ℕ) (ran : ModulateRan)
    → IsPrefix (records_due c false bytes) (records_due c ended (bytes ++ more)) → IsAll c false bytes taken ran
    → bytes_due c ended (bytes ++ more) ≡ taken → IsAll c ended (bytes ++ more) taken ran
fed_all c ended bytes more taken ran prefix was all =
    let due = records_due c false bytes in
    let parts : bytes_due c ended (bytes ++ more) ≡ flat_map (spelled c) due ++ flat_map (spelled c) prefix.0 =
    ap (flat_map (spelled c)) prefix.1 ∙ flat_map-append (spelled c) due prefix.0 in
    let size = ap length (sym all ∙ parts) in
    let sum = length-append (flat_map (spelled c) due) (flat_map (spelled c) prefix.0) in
    let whole = ap length was.all in
    let none : prefix.0 ≡ [] = none_left (spelled c) prefix.0 (some_bytes c) (omega (arith, size, sum, whole)) in
    let is : records_due c ended (bytes ++ more) ≡ due = prefix.1 ∙ ap (λ (xs : List FrameRecord). due ++ xs) none
    ∙ append-nil due in
    record { all = all; ran_is = was.ran_is ∙ ap counted (sym is); early = subst AreEarly (sym is) was.early }

-- ---- nothing was given yet

pub first_next : (c : Config) (ended : Bool) (bytes : List ℕ) (w : Waiting) → WaitsAs c ended bytes [] w
    → IsNext c ended bytes [] w (counted [])
first_next c ended bytes w a =
    let t = taken_len c ended bytes [] w a in
    let none : a.before ≡ [] = none_left (spelled c) a.before (some_bytes c) (omega (arith, t)) in
    record {
      waits = a;
      ran_is = ap counted (sym none);
      early = subst AreEarly (sym none) refl;
      late = λ e.
          nil_from_length a.part (omega (arith, t));
    }

pub first_all : (c : Config) (ended : Bool) (bytes : List ℕ) → bytes_due c ended bytes ≡ []
    → IsAll c ended bytes [] (counted [])
first_all c ended bytes all =
    let none : records_due c ended bytes ≡ [] = none_left (spelled c) (records_due c ended bytes) (some_bytes c)
    (ap length all) in
    record { all = all; ran_is = ap counted (sym none); early = subst AreEarly (sym none) refl }
