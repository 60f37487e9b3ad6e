-- A slot of a group goes on to a gateway.
use Rattle.std.proofs.Common.{◌≡◌, ◌≢◌, ℕ, ◌<◌, ◌≤◌, Bool, true, false, List, [], ◌∷◌, ◌++◌, length, Some, None}
use Rattle.std.proofs.Common.{refl, ap, sym, subst, ◌∙◌, inl, inr, arith, append-nil, ⊎_elim}
use Rattle.std.specs.Prelude.{◌&&◌, is_some}
use Rattle.std.specs.declared.option.Option.{Option}
use Rattle.std.proofs.lemmas.Bool.{cases_lt, cond-true, cond-false, true≢false, ne_eqb, or_right, true_from_ne_false}
use Rattle.std.proofs.lemmas.Bool.Decides.{Decides-eqb}
use Rattle.terms.proofs.CaseLemmas.{bool_cases}
use Rattle.plp_config.specs.Rules.{AllRules}
use Rattle.plp_config.specs.declared.config.Config.{Config}
use Rattle.common_plp.specs.Groups.{is_common, common_of}
use Rattle.common_plp.specs.Shared.{common_packet, is_shared}
use Rattle.common_plp.specs.Laws.{InStep}
use Rattle.gateway_core.specs.Events.{Event, Offered, Ended, packets_to, offered, has_ended}
use Rattle.gateway_core.specs.StandsFor.{GatewayStandsFor, plps_of, wants_of}
use Rattle.gateway_core.specs.declared.gateway.Gateway.{Gateway}
use Rattle.gateway_core.specs.Order.{is_member}
use Rattle.gateway_core.specs.Slots.{held_at, is_held_in, any_held, HasCome, PassesOn, slot_in, passed, share_events}
use Rattle.gateway_core.specs.Slots.{pass_events}
use Rattle.gateway_core.specs.Works.{Works}
use Rattle.gateway_core.proofs.EventLemmas.{offered_append, ended_append, AreQuiet, all_quiet, passed_quiet}
use Rattle.gateway_core.proofs.EventLemmas.{passed_ends, passed_later, passed_offers}
use Rattle.gateway_core.proofs.MemberLemmas.{own_of, alone_is}
use Rattle.gateway_core.proofs.InputsLemmas.{or_false}
use Rattle.gateway_core.proofs.PassLemmas.{none_here}
use Rattle.gateway_core.proofs.RangeLemmas.{not_found}
use Rattle.gateway_core.proofs.SlotLemmas.{IsPassed, slot_passed, stream_ended}
use Rattle.gateway_core.proofs.SplitLemmas.{splits_as}
use Rattle.gateway_core.proofs.WorkLemmas.{Came, ready_of, some_held}

-- a common PLP has no input itself
not_itself : (c : Config) (turn : ℕ) → is_common c turn ≡ true → is_member c turn turn ≡ false
not_itself c turn common =
    bool_cases (is_member c turn turn) (λ on. absurd (true≢false (sym common ∙ (own_of c turn turn common on).0)))
    (λ off. off)

-- nothing goes on of a PLP outside of the group
none_outside : (c : Config) (held : List (Option (List ℕ))) (turn : ℕ) (shared : Bool) (plp : ℕ)
    → is_member c turn plp ≡ false
    → offered plp (passed c held turn shared (length c.plps)) ≡ []
none_outside c held turn shared plp off =
    ⊎_elim (λ (lt : plp < length c.plps). passed_offers c held turn shared (length c.plps) plp lt
    ∙ cond-false (is_member c turn plp) _ _ off)
    (λ (le : length c.plps ≤ plp). passed_later c held turn shared (length c.plps) plp le)
    (cases_lt plp (length c.plps))

one_here : (turn : ℕ) (packet : List ℕ) → packets_to turn (Offered turn packet) ≡ packet ∷ []
one_here turn packet = rw ((Decides-eqb turn turn).1 refl) refl

none_there : (turn plp : ℕ) (packet : List ℕ) → plp ≢ turn → packets_to plp (Offered turn packet) ≡ []
none_there turn plp packet d = rw (ne_eqb turn plp (λ e. d (sym e))) refl

-- ---- with a common PLP

shared_passed : (c : Config) (held after : List (Option (List ℕ))) (turn : ℕ) (done : List Event)
    → is_common c turn ≡ true
    → PassesOn c held turn (length c.plps) after
    → IsPassed c held after (λ plp. offered plp done)
    (λ plp. offered plp (done ++ share_events c held turn (length c.plps))) turn
    (is_shared (slot_in c held turn))
shared_passed c held after turn done common p =
    let shared : Bool = is_shared (slot_in c held turn) in
    let packet : List ℕ = common_packet (slot_in c held turn) in
    let all : (plp : ℕ) → offered plp (done ++ share_events c held turn (length c.plps))
    ≡ offered plp done ++ (packets_to plp (Offered turn packet) ++ offered plp
    (passed c held turn shared (length c.plps))) =
    λ plp. offered_append plp done (share_events c held turn (length c.plps)) in
    let apart : (plp : ℕ) → is_member c turn plp ≡ true → plp ≢ turn = λ plp member e.
    true≢false (sym (subst (λ (k : ℕ). is_member c turn k ≡ true) e member) ∙ not_itself c turn common) in
    record {
      lead = λ on. all turn ∙ rw (one_here turn packet, none_outside c held turn shared turn (not_itself c turn common))
          refl;
      own = λ plp lt member. all plp ∙ rw (none_there turn plp packet (apart plp member))
          (ap (λ (l : List (List ℕ)). offered plp done ++ l) (passed_offers c held turn shared (length c.plps) plp lt
          ∙ cond-true (is_member c turn plp) _ _ member));
      rest = λ plp off differ. all plp ∙ rw (none_there turn plp packet differ, none_outside c held turn shared plp off)
          (append-nil (offered plp done));
      on = λ _. refl;
      off = λ own. absurd (true≢false (sym common ∙ own));
      kept = p.below;
    }

-- ---- without

alone_passed : (c : Config) (held after : List (Option (List ℕ))) (turn : ℕ) (done : List Event)
    → is_common c turn ≡ false
    → PassesOn c held turn (length c.plps) after
    → IsPassed c held after (λ plp. offered plp done)
    (λ plp. offered plp (done ++ passed c held turn false (length c.plps))) turn false
alone_passed c held after turn done own p = record {
  lead = λ on. absurd (true≢false (sym on ∙ own));
  own = λ plp lt member. offered_append plp done (passed c held turn false (length c.plps))
      ∙ ap (λ (l : List (List ℕ)). offered plp done ++ l) (passed_offers c held turn false (length c.plps) plp lt
      ∙ cond-true (is_member c turn plp) _ _ member);
  rest = λ plp off differ. offered_append plp done (passed c held turn false (length c.plps))
      ∙ ap (λ (l : List (List ℕ)). offered plp done ++ l) (none_outside c held turn false plp off)
      ∙ append-nil (offered plp done);
  on = λ on. absurd (true≢false (sym on ∙ own));
  off = λ _. refl;
  kept = p.below;
}

-- ---- what holds behind it

-- events without an end
still_ended : (done es : List Event) (plp : ℕ) → has_ended plp es ≡ false
    → has_ended plp (done ++ es) ≡ has_ended plp done
still_ended done es plp none = ended_append plp done es ∙ rw none (or_false (has_ended plp done))

held_none : (b : Bool) (o : Option (List ℕ)) → (b && is_some o) ≡ false → b ≡ true → o ≡ None
held_none b None e on = refl
held_none true (Some x) e on = absurd (true≢false e)
held_none false (Some x) e on = absurd (true≢false (sym on))

end_here : (turn : ℕ) (done : List Event) → has_ended turn (done ++ Ended turn ∷ []) ≡ true
end_here turn done = ended_append turn done (Ended turn ∷ []) ∙ rw ((Decides-eqb turn turn).1 refl)
    (or_right (has_ended turn done) true refl)

end_there : (turn plp : ℕ) (done : List Event) → plp ≢ turn → has_ended plp (done ++ Ended turn ∷ []) ≡ has_ended
    plp done
end_there turn plp done d =
    ended_append plp done (Ended turn ∷ []) ∙ rw (ne_eqb turn plp (λ e. d (sym e))) (or_false (has_ended plp done))

-- nothing is held of a group alone, so nothing of it has come
alone_held : (c : Config) (g : Gateway) (held : List (Option (List ℕ))) (turn : ℕ) → turn < length c.plps
    → is_common c turn ≡ false
    → 0 < wants_of g turn → HasCome c g held turn turn → held_at held turn ≢ None
alone_held c g held turn inside own some come = elim (come (alone_is c turn own)) [
  | inl none ↦ absurd (omega (arith, some, none))
  | inr is ↦ is
]

quiet_on : (c : Config) (held : List (Option (List ℕ))) (turn n : ℕ) → AreQuiet (pass_events c held turn n)
quiet_on c held turn n =
    bool_cases (any_held c held turn n)
    (λ on. bool_cases (is_common c turn)
    (λ common. rw (on, common) (tt, passed_quiet c held turn (is_shared (slot_in c held turn)) n))
    (λ own. rw (on, own) (passed_quiet c held turn false n)))
    (λ off. rw off (tt, tt))

module _ (law : InStep) {c : Config} (g : Gateway) {held after : List (Option (List ℕ))} (turn : ℕ) (rules : AllRules c)
    (plps : plps_of g ≡ length c.plps) (inside : turn < length c.plps) (first : common_of c turn ≡ None)
    (some : 0 < wants_of g turn) (come : (plp : ℕ) → plp < length c.plps → HasCome c g held turn plp)
    (p : PassesOn c held turn (length c.plps) after) where
  came_on : (events done : List Event) → GatewayStandsFor g c done → Came c held events done
      → Came c after events (done ++ pass_events c held turn (length c.plps))
  came_on events done stands s =
      let n : ℕ = length c.plps in
      let r = ready_of law c g held events done turn rules plps stands s inside first some come in
      bool_cases (any_held c held turn n)
      (λ on.
      let h = some_held c held turn n (omega arith) on in
      bool_cases (is_common c turn)
      (λ common. rw (on, common)
      (splits_as (λ k. refl) (λ k. refl) (λ k. refl) (λ plp. still_ended done (share_events c held turn n) plp
      (passed_ends c held turn (is_shared (slot_in c held turn)) n plp))
      (slot_passed s r (shared_passed c held after turn done common p) h)))
      (λ own. rw (on, own)
      (splits_as (λ k. refl) (λ k. refl) (λ k. refl) (λ plp. still_ended done (passed c held turn false n) plp
      (passed_ends c held turn false n plp))
      (slot_passed s r (alone_passed c held after turn done own p) h))))
      (λ off.
      let none : (plp : ℕ) → plp < n → is_member c turn plp ≡ true → held_at held plp ≡ None = λ plp lt member.
      held_none (is_member c turn plp) (held_at held plp) (not_found (is_held_in c held turn) plp n lt off) member in
      let common : is_common c turn ≡ true = true_from_ne_false (is_common c turn)
      (λ own. alone_held c g held turn inside own some (come turn inside) (none turn inside (alone_is c turn own))) in
      let e = splits_as (λ k. refl) (λ k. refl)
      (λ plp. offered_append plp done (Ended turn ∷ []) ∙ append-nil (offered plp done)) (λ k. refl)
      (stream_ended s r common none (end_here turn done) (λ plp d. end_there turn plp done d)) in
      rw off (record {
        each = e.each;
        closed_is = e.closed_is;
        held_is = λ plp i. p.below plp i.0
            ∙ sym (none_here (is_member c turn plp) (held_at held plp) (not_found
            (is_held_in c held turn) plp n i.0 off))
            ∙ e.held_is plp i;
        few = e.few;
        behind = e.behind;
        step = e.step;
      }))

  pub works_on : {next : Gateway} {events : List Event} → ((d : Config) (done : List Event) → GatewayStandsFor g d done
      → GatewayStandsFor next d (done ++ pass_events c held turn (length c.plps)))
      → Works c g held events → Works c next after events
  works_on {events = events} stands w =
      let q = all_quiet w.done (pass_events c held turn (length c.plps)) (quiet_on c held turn (length c.plps)) in
      record {
        done = w.done ++ pass_events c held turn (length c.plps);
        stands = stands c w.done w.stands;
        splits = record {
          begun_is = q.begun_is ∙ w.splits.begun_is;
          given_is = q.given_is ∙ w.splits.given_is;
          finished_is = q.finished_is ∙ w.splits.finished_is;
          splits = came_on events w.done w.stands w.splits.splits;
        };
      }
