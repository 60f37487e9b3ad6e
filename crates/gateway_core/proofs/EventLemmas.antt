-- What was done to a gateway with the packets of a slot.
use Rattle.std.proofs.Common.{◌≡◌, ◌≢◌, ℕ, zero, suc, ◌+◌, ◌<◌, ◌≤◌, ◌||◌, Bool, true, false, List, [], ◌∷◌, ◌++◌, Some}
use Rattle.std.proofs.Common.{None, refl, ap, sym, subst, ◌∙◌, inl, inr, arith, append_assoc, append-nil}
use Rattle.std.specs.Prelude.{if◌then◌else◌}
use Rattle.std.specs.declared.option.Option.{Option}
use Rattle.std.proofs.lemmas.Bool.{cases_eq, ne_eqb, cond_both}
use Rattle.std.proofs.lemmas.Bool.Decides.{Decides-eqb}
use Rattle.std.proofs.lemmas.Grind.{flat_map-append}
use Rattle.std.proofs.lemmas.List.Folds.{list_any-append}
use Rattle.plp_config.specs.declared.config.Config.{Config}
use Rattle.gateway_core.specs.Events.{Event, Offered, Ended, Begun, Gave, Finished, packets_to, offered, ends}
use Rattle.gateway_core.specs.Events.{has_ended, begun, given, finished}
use Rattle.gateway_core.proofs.HoldsLemmas.{begun_same, given_same, finished_same}
use Rattle.gateway_core.specs.Order.{is_member}
use Rattle.gateway_core.specs.Slots.{held_at, offered_of, passed_of, passed}
use Rattle.gateway_core.proofs.RangeLemmas.{flat_more}
use Rattle.gateway_core.proofs.SlotLemmas.{passing}

pub offered_append : (plp : ℕ) (xs ys : List Event) → offered plp (xs ++ ys) ≡ offered plp xs ++ offered plp ys
offered_append plp xs ys = flat_map-append (packets_to plp) xs ys

pub ended_append : (plp : ℕ) (xs ys : List Event) → has_ended plp (xs ++ ys) ≡ (has_ended plp xs || has_ended plp ys)
ended_append plp xs ys = list_any-append (ends plp) xs ys

-- ---- events that are packets and ends alone

abbrev IsQuiet : Event → Type 0
IsQuiet (Offered plp packet) = Unit {0}
IsQuiet (Ended plp) = Unit {0}
IsQuiet Begun = ⊥
IsQuiet Gave = ⊥
IsQuiet Finished = ⊥

abbrev pub AreQuiet : List Event → Type 0
AreQuiet [] = Unit {0}
AreQuiet (e ∷ es) = IsQuiet e × AreQuiet es

-- They begin no frame, give no unit and end nothing else.
pub record Same (old new : List Event) : Type 0 where
  pub begun_is : begun new ≡ begun old
  pub given_is : given new ≡ given old
  pub finished_is : finished new ≡ finished old

one_quiet : (es : List Event) (e : Event) → IsQuiet e → Same es (es ++ e ∷ [])
one_quiet es (Offered plp packet) q =
    record {
      begun_is = begun_same es (Offered plp packet) refl;
      given_is = given_same es (Offered plp packet) refl;
      finished_is = finished_same es (Offered plp packet) refl;
    }
one_quiet es (Ended plp) q =
    record {
      begun_is = begun_same es (Ended plp) refl;
      given_is = given_same es (Ended plp) refl;
      finished_is = finished_same es (Ended plp) refl;
    }
one_quiet es Begun q = absurd q
one_quiet es Gave q = absurd q
one_quiet es Finished q = absurd q

pub all_quiet : (es more : List Event) → AreQuiet more → Same es (es ++ more)
all_quiet es [] q =
    let e = append-nil es in record { begun_is = ap begun e; given_is = ap given e; finished_is = ap finished e }
all_quiet es (e ∷ more) q =
    let s = one_quiet es e q.0 in
    let t = all_quiet (es ++ e ∷ []) more q.1 in
    let a = sym (append_assoc es (e ∷ []) more) in record {
      begun_is = ap begun a ∙ t.begun_is ∙ s.begun_is;
      given_is = ap given a ∙ t.given_is ∙ s.given_is;
      finished_is = ap finished a ∙ t.finished_is ∙ s.finished_is;
    }

quiet_append : (xs ys : List Event) → AreQuiet xs → AreQuiet ys → AreQuiet (xs ++ ys)
quiet_append [] ys p q = q
quiet_append (x ∷ xs) ys p q = (p.0, quiet_append xs ys p.1 q)

-- ---- what goes on of the inputs of a group

one_with : (plp : ℕ) (shared : Bool) (o : Option (List ℕ)) → AreQuiet (offered_of plp shared o)
one_with plp shared None = tt
one_with plp shared (Some packet) = (tt, tt)

pub passed_quiet : (c : Config) (held : List (Option (List ℕ))) (turn : ℕ) (shared : Bool) (n : ℕ)
    → AreQuiet (passed c held turn shared n)
passed_quiet c held turn shared zero = tt
passed_quiet c held turn shared (suc n) =
    let e : suc n ≡ n + 1 = omega arith in
    subst (λ (m : ℕ). AreQuiet (passed c held turn shared m)) (sym e)
    (subst AreQuiet (sym (flat_more (passed_of c held turn shared) n))
    (quiet_append (passed c held turn shared n) (passed_of c held turn shared n) (passed_quiet c held turn shared n)
    (cond_both (is_member c turn n) (offered_of n shared (held_at held n)) [] AreQuiet
    (λ _. one_with n shared (held_at held n)) (λ _. tt))))

-- no input ends
no_end : (plp k : ℕ) (shared : Bool) (o : Option (List ℕ)) → has_ended plp (offered_of k shared o) ≡ false
no_end plp k shared None = refl
no_end plp k shared (Some packet) = refl

pub passed_ends : (c : Config) (held : List (Option (List ℕ))) (turn : ℕ) (shared : Bool) (n plp : ℕ)
    → has_ended plp (passed c held turn shared n) ≡ false
passed_ends c held turn shared zero plp = refl
passed_ends c held turn shared (suc n) plp =
    let e : suc n ≡ n + 1 = omega arith in
    ap (λ (m : ℕ). has_ended plp (passed c held turn shared m)) e
    ∙ ap (has_ended plp) (flat_more (passed_of c held turn shared) n)
    ∙ ended_append plp (passed c held turn shared n) (passed_of c held turn shared n)
    ∙ rw (
      passed_ends c held turn shared n plp,
      cond_both (is_member c turn n) (offered_of n shared (held_at held n)) []
          (λ (l : List Event). has_ended plp l ≡ false) (λ _. no_end plp n shared (held_at held n)) (λ _. refl),
    ) refl

-- what each PLP is offered
abbrev pub own_of_slot : Config → List (Option (List ℕ)) → ℕ → Bool → ℕ → List (List ℕ)
own_of_slot c held turn shared plp = if is_member c turn plp then passing shared (held_at held plp) else []

here_with : (plp : ℕ) (shared : Bool) (o : Option (List ℕ)) → offered plp (offered_of plp shared o) ≡ passing shared o
here_with plp shared None = refl
here_with plp shared (Some packet) = rw ((Decides-eqb plp plp).1 refl) refl

here_if : (plp : ℕ) (b : Bool) (es : List Event) (ps : List (List ℕ)) → offered plp es ≡ ps
    → offered plp (if b then es else []) ≡ (if b then ps else [])
here_if plp true es ps e = e
here_if plp false es ps e = refl

other_with : (plp k : ℕ) (shared : Bool) (o : Option (List ℕ)) → plp ≢ k → offered plp (offered_of k shared o) ≡ []
other_with plp k shared None d = refl
other_with plp k shared (Some packet) d = rw (ne_eqb k plp (λ e. d (sym e))) refl

step_is : (c : Config) (held : List (Option (List ℕ))) (turn : ℕ) (shared : Bool) (n plp : ℕ)
    → offered plp (passed c held turn shared (n + 1))
    ≡ offered plp (passed c held turn shared n) ++ offered plp (passed_of c held turn shared n)
step_is c held turn shared n plp =
    ap (offered plp) (flat_more (passed_of c held turn shared) n)
    ∙ offered_append plp (passed c held turn shared n) (passed_of c held turn shared n)

others_with : (c : Config) (held : List (Option (List ℕ))) (turn : ℕ) (shared : Bool) (n plp : ℕ) → plp ≢ n
    → offered plp (passed_of c held turn shared n) ≡ []
others_with c held turn shared n plp d =
    cond_both (is_member c turn n) (offered_of n shared (held_at held n)) [] (λ (l : List Event). offered plp l ≡ [])
    (λ _. other_with plp n shared (held_at held n) d) (λ _. refl)

pub passed_later : (c : Config) (held : List (Option (List ℕ))) (turn : ℕ) (shared : Bool) (n plp : ℕ) → n ≤ plp
    → offered plp (passed c held turn shared n) ≡ []
passed_later c held turn shared zero plp le = refl
passed_later c held turn shared (suc n) plp le =
    let e : suc n ≡ n + 1 = omega arith in
    ap (λ (m : ℕ). offered plp (passed c held turn shared m)) e ∙ step_is c held turn shared n plp
    ∙ rw (
      passed_later c held turn shared n plp (omega (arith, le)),
      others_with c held turn shared n
          plp (λ z. omega (arith, le, z)),
    ) refl

pub passed_offers : (c : Config) (held : List (Option (List ℕ))) (turn : ℕ) (shared : Bool) (n plp : ℕ) → plp < n
    → offered plp (passed c held turn shared n) ≡ own_of_slot c held turn shared plp
passed_offers c held turn shared zero plp lt = absurd (omega (arith, lt))
passed_offers c held turn shared (suc n) plp lt =
    let e : suc n ≡ n + 1 = omega arith in
    ap (λ (m : ℕ). offered plp (passed c held turn shared m)) e ∙ step_is c held turn shared n plp
    ∙ elim (cases_eq plp n) [
      | inl same ↦ subst (λ (k : ℕ). offered k (passed c held turn shared n) ++ offered k
          (passed_of c held turn shared n)
          ≡ own_of_slot c held turn shared k) (sym same)
          (rw (passed_later c held turn shared n n (omega arith))
          (here_if n (is_member c turn n) (offered_of n shared (held_at held n)) (passing shared (held_at held n))
          (here_with n shared (held_at held n))))
      | inr d ↦ rw (others_with c held turn shared n plp d)
          (append-nil (offered plp (passed c held turn shared n)) ∙ passed_offers c held turn shared
          n plp (omega (arith, lt, d)))
    ]
