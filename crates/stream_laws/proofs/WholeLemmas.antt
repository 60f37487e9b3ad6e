-- Whole frames, and what is missing in others.
use Rattle.std.proofs.Common.{◌<◌, ◌≡◌, ℕ, suc, ◌+◌, ◌≤◌, Bool, true, false, cond, List, [], ◌∷◌, length, count_by}
use Rattle.std.proofs.Common.{refl, ap, sym, ◌∙◌, ⊎_elim, arith, true≢false, ◌&&◌, ap₂}
use Rattle.std.specs.Prelude.{slice_get, Some, zip}
use Rattle.std.specs.List.{filter, items_where_true}
use Rattle.std.proofs.lemmas.Bool.{cases_Bool, cond-true, cond-false, and_from, cases_eq, eq-eqb, ne_eqb}
use Rattle.std.proofs.lemmas.List.Sums.{sum_by-cons}
use Rattle.std.proofs.lemmas.Option.{same_Some}
use Rattle.stream_laws.specs.SentPackets.{Sent}
use Rattle.stream_laws.specs.Survivors.{carries, all_survive}
use Rattle.stream_laws.specs.DamageLaws.{WholeTold, WholeIsAll, Misses, NotWholeMisses, CarriesAlone}
use Rattle.std.proofs.lemmas.List.Folds.{list_any_none}
use Rattle.plp_config.specs.Laws.{BeginAlone}
use Rattle.frame_groups.proofs.BegunLemmas.{place_there}

-- the packets that pass a test, told whether they survive
abbrev told : (Sent → Bool) → List Sent → List Bool → List (Sent × Bool)
told test sent survival = filter (λ p. test p.0) (zip sent survival)

whole_here : (test : Sent → Bool) (s : Sent) (sent : List Sent) (t : Bool) (survival : List Bool) → test s ≡ true
    → all_survive test (s ∷ sent) (t ∷ survival) ≡ (t && all_survive test sent survival)
whole_here test s sent t survival e = rw e refl

whole_other : (test : Sent → Bool) (s : Sent) (sent : List Sent) (t : Bool) (survival : List Bool) → test s ≡ false
    → all_survive test (s ∷ sent) (t ∷ survival) ≡ all_survive test sent survival
whole_other test s sent t survival e = rw e refl

all_told : (test : Sent → Bool) (sent : List Sent) (survival : List Bool)
    → ((i : ℕ) (s : Sent) → slice_get sent i ≡ Some s → test s ≡ true → slice_get survival i ≡ Some true)
    → all_survive test sent survival ≡ true
all_told test [] survival h = refl
all_told test (s ∷ sent) [] h = refl
all_told test (s ∷ sent) (t ∷ survival) h =
    let rest : all_survive test sent survival ≡ true = all_told test sent survival (λ i r is e. h (suc i) r is e) in
    ⊎_elim
    (λ (e : test s ≡ true). whole_here test s sent t survival e
    ∙ and_from _ _ (same_Some t true (h 0 s refl e)) rest)
    (λ (e : test s ≡ false). whole_other test s sent t survival e ∙ rest)
    (cases_Bool (test s))

pub whole_told : WholeTold
whole_told c sent survival n h = all_told (carries c n) sent survival h

-- what is among packets that all survive
passed : (test : Sent → Bool) (s : Sent) (sent : List Sent) → test s ≡ true
    → filter test (s ∷ sent) ≡ s ∷ filter test sent
passed test s sent e = cond-true _ _ _ e

left_out : (test : Sent → Bool) (s : Sent) (sent : List Sent) → test s ≡ false
    → filter test (s ∷ sent) ≡ filter test sent
left_out test s sent e = cond-false _ _ _ e

among_all : (all test : Sent → Bool) (sent : List Sent) (survival : List Bool)
    → ((s : Sent) → test s ≡ true → all s ≡ true)
    → length survival ≡ length sent → all_survive all sent survival ≡ true
    → filter test (items_where_true survival sent) ≡ filter test sent
among_all all test [] [] sub l w = refl
among_all all test [] (t ∷ survival) sub l w = refl
among_all all test (s ∷ sent) [] sub l w = absurd (omega (arith, l))
among_all all test (s ∷ sent) (true ∷ survival) sub l w =
    let rest : all_survive all sent survival ≡ true = ⊎_elim
    (λ (e : all s ≡ true). sym (whole_here all s sent true survival e) ∙ w)
    (λ (e : all s ≡ false). sym (whole_other all s sent true survival e) ∙ w) (cases_Bool (all s)) in
    let more = among_all all test sent survival sub (omega (arith, l)) rest in
    ⊎_elim
    (λ (e : test s ≡ true). passed test s (items_where_true survival sent) e ∙ ap (λ (l : List Sent). s ∷ l) more
    ∙ sym (passed test s sent e))
    (λ (e : test s ≡ false). left_out test s (items_where_true survival sent) e ∙ more ∙ sym (left_out test s sent e))
    (cases_Bool (test s))
among_all all test (s ∷ sent) (false ∷ survival) sub l w = ⊎_elim
    (λ (e : all s ≡ true). absurd (true≢false (sym w ∙ whole_here all s sent false survival e)))
    (λ (e : all s ≡ false).
    let none : test s ≡ false = ⊎_elim (λ (t : test s ≡ true). absurd (true≢false (sym (sub s t) ∙ e)))
    (λ (t : test s ≡ false). t) (cases_Bool (test s)) in
    among_all all test sent survival sub (omega (arith, l)) (sym (whole_other all s sent false survival e) ∙ w)
    ∙ sym (left_out test s sent none))
    (cases_Bool (all s))

pub whole_is_all : WholeIsAll
whole_is_all c sent survival n test l w sub = among_all (carries c n) test sent survival sub l w

-- ---- what is missing

counted : (test : Sent → Bool) (s : Sent) (sent : List Sent) → count_by test (s ∷ sent) ≡ cond {A = ℕ} (test s) 1 0
    + count_by test sent
counted test s sent = sum_by-cons (λ (s : Sent). cond {A = ℕ} (test s) 1 0) s sent

count_survivors : (test : Sent → Bool) (sent : List Sent) (survival : List Bool)
    → count_by test (items_where_true survival sent)
    ≤ count_by test sent
count_survivors test sent [] = omega arith
count_survivors test [] (t ∷ survival) = omega arith
count_survivors test (s ∷ sent) (true ∷ survival) = omega
    (arith, counted test s (items_where_true survival sent), counted test s sent, count_survivors test sent survival)
count_survivors test (s ∷ sent) (false ∷ survival) =
    omega (arith, counted test s sent, count_survivors test sent survival)

-- A packet that is missing in the later ones is missing in all.
fewer_on : (test : Sent → Bool) (s : Sent) (sent : List Sent) (t : Bool) (survival : List Bool)
    → count_by test (items_where_true survival sent) < count_by test sent
    → count_by test (items_where_true (t ∷ survival) (s ∷ sent)) < count_by test (s ∷ sent)
fewer_on test s sent true survival l =
    omega (arith, l, counted test s (items_where_true survival sent), counted test s sent)
fewer_on test s sent false survival l = omega (arith, l, counted test s sent)

misses_on : (all : Sent → Bool) (s : Sent) (sent : List Sent) (t : Bool) (survival : List Bool)
    → Misses all sent survival → Misses all (s ∷ sent) (t ∷ survival)
misses_on all s sent t survival m = record {
  packet = m.packet;
  there = (suc m.there.0, (let l = m.there.1 in omega (arith, l)), m.there.2);
  passing = m.passing;
  fewer = λ test x. fewer_on test s sent t survival (m.fewer test x);
}

misses_here : (all : Sent → Bool) (s : Sent) (sent : List Sent) (survival : List Bool) → all s ≡ true
    → Misses all (s ∷ sent) (false ∷ survival)
misses_here all s sent survival e = grind (arith, counted, cond-true, count_survivors)

not_all_misses : (all : Sent → Bool) (sent : List Sent) (survival : List Bool) → all_survive all sent survival ≡ false
    → Misses all sent survival
not_all_misses all [] survival w = absurd (true≢false w)
not_all_misses all (s ∷ sent) [] w = absurd (true≢false w)
not_all_misses all (s ∷ sent) (true ∷ survival) w = misses_on all s sent true survival
    (not_all_misses all sent survival (⊎_elim
    (λ (e : all s ≡ true). sym (whole_here all s sent true survival e) ∙ w)
    (λ (e : all s ≡ false). sym (whole_other all s sent true survival e) ∙ w)
    (cases_Bool (all s))))
not_all_misses all (s ∷ sent) (false ∷ survival) w = ⊎_elim
    (λ (e : all s ≡ true). misses_here all s sent survival e)
    (λ (e : all s ≡ false).
    misses_on all s sent false survival (not_all_misses all sent survival (sym (whole_other all s sent false survival e)
    ∙ w)))
    (cases_Bool (all s))

pub not_whole_misses : NotWholeMisses
not_whole_misses c sent survival n w = not_all_misses (carries c n) sent survival w

-- ---- interleaving frames of single frames: a frame carries what is sent in it

pub carries_alone : BeginAlone → CarriesAlone
carries_alone law c n s alone = grind (arith, eq-eqb, ne_eqb, list_any_none, place_there, ap₂, cases_eq)
