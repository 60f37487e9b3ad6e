-- What a gateway with common PLPs stands for behind each call.
use Rattle.std.proofs.Common.{◌≡◌, ◌≢◌, ℕ, ◌+◌, ◌-◌, ◌*◌, ◌<◌, ◌≤◌, Bool, true, false, List, [], ◌∷◌, ◌++◌, length}
use Rattle.std.proofs.Common.{Some, None, refl, ap, sym, subst, ◌∙◌, inl, inr, arith, replicate, ⊎_elim, ◌||◌, cond}
use Rattle.std.proofs.Common.{append-nil}
use Rattle.std.specs.declared.option.Option.{Option}
use Rattle.std.proofs.Math.Logic.{∥∥₁_map}
use Rattle.std.specs.List.{list_any}
use Rattle.std.proofs.lemmas.Bool.{cases_eq, cases_lt, true≢false}
use Rattle.std.proofs.lemmas.List.{get_or-replicate, length-replicate}
use Rattle.std.proofs.lemmas.List.Folds.{list_any-append}
use Rattle.std.proofs.Math.ListN.{get_or-eq_default}
use Rattle.gateway_core.proofs.WantLemmas.{wants_is, some_wanted}
use Rattle.plp_config.specs.Rules.{AllRules}
use Rattle.plp_config.specs.declared.config.Config.{Config}
use Rattle.plp_config.specs.Plps.{no_plp}
use Rattle.plp_config.specs.SlotTime.{slots_by}
use Rattle.plp_config.specs.declared.plp.Plp.{Plp}
use Rattle.common_plp.specs.Groups.{is_common, is_common_type}
use Rattle.common_plp.specs.Laws.{InStep}
use Rattle.common_plp.specs.Split.{split}
use Rattle.gateway_core.specs.Events.{Event, Offered, Ended, packets_to, ends, begins, gives, finishes, offered}
use Rattle.gateway_core.specs.Events.{has_ended, begun}
use Rattle.gateway_core.specs.InputSoFar.{Told, told}
use Rattle.gateway_core.specs.InputsStandFor.{AllContinue}
use Rattle.gateway_core.specs.StandsFor.{GatewayStandsFor, plps_of, wants_of}
use Rattle.gateway_core.specs.declared.gateway.Gateway.{Gateway}
use Rattle.gateway_core.proofs.HoldsLemmas.{other_offered, other_ended, begun_same, given_same, finished_same}
use Rattle.gateway_core.proofs.HoldsLemmas.{begun_with, given_with}
use Rattle.gateway_core.proofs.InputsLemmas.{told_offered, told_ended, or_false}
use Rattle.gateway_core.specs.Continuing.{InputsContinue}
use Rattle.gateway_core.specs.Order.{IsInput}
use Rattle.gateway_core.specs.Slots.{held_at, HeldWanted}
use Rattle.gateway_core.specs.Splitting.{Splitting}
use Rattle.gateway_core.specs.SplitStandsFor.{Asks}
use Rattle.gateway_core.specs.Works.{Works, HasWorked, Moves, FindsFirst}
use Rattle.gateway_core.specs.declared.split_gateway.SplitGateway.{SplitGateway}
use Rattle.gateway_core.proofs.EventLemmas.{offered_append, ended_append}
use Rattle.gateway_core.proofs.FindLemmas.{none_wanted_by}
use Rattle.gateway_core.proofs.MemberLemmas.{member_input}
use Rattle.gateway_core.proofs.SplitLemmas.{goes_on, none_held, packet_came, input_ended, splits_as}

-- ---- opened

none_at : (n plp : ℕ) → held_at (replicate n None) plp ≡ None
none_at n plp = ⊎_elim (λ (lt : plp < n). get_or-replicate n plp None None lt)
    (λ (le : n ≤ plp). get_or-eq_default (replicate n None) None
    (omega (arith, le, length-replicate {A = Option (List ℕ)} n None)))
    (cases_lt plp n)

pub new_works : (c : Config) (g : Gateway) (held : List (Option (List ℕ))) (n : ℕ) → held ≡ replicate n None
    → GatewayStandsFor g c []
    → Works c g held []
new_works c g held n is stands = record {
  done = [];
  stands = stands;
  splits = record {
    begun_is = refl;
    given_is = refl;
    finished_is = refl;
    splits = record {
      each = λ plp lt. record {
        settled = λ q inside member. inl (omega arith);
        front = refl;
        whole = λ on. absurd (true≢false (sym on));
      };
      closed_is = λ plp i. refl;
      held_is = λ plp i. ap (λ (h : List (Option (List ℕ))). held_at h plp) is ∙ none_at n plp;
      few = λ plp i. omega arith;
      behind = λ plp i. omega arith;
      step = λ plp i off. refl;
    };
  };
}

pub none_is_wanted : (c : Config) (g : Gateway) (held : List (Option (List ℕ))) (n : ℕ) → held ≡ replicate n None
    → HeldWanted c g held
none_is_wanted c g held n is = λ plp own some. absurd (some (ap (λ (h : List (Option (List ℕ))). held_at h plp) is
    ∙ none_at n plp))

-- ---- slots went on

pub after_move : (c : Config) (g next : Gateway) (items was is now : List (Option (List ℕ))) → was ≡ items → now ≡ is
    → Moves c g next was is → (events : List Event) → Works c g items events → Works c next now events
after_move c g next items was is now from to m events w =
    subst (λ (h : List (Option (List ℕ))). Works c next h events) (sym to)
    (m.goes events (subst (λ (h : List (Option (List ℕ))). Works c g h events) (sym from) w))

pub asks_of : InStep → (s : SplitGateway) (held : List (Option (List ℕ))) (o : Option ℕ) → s.held.items ≡ held
    → AllRules s.plan.now
    → FindsFirst s.plan.now s.gateway held o → Asks s o
asks_of law s held None is rules settled = λ plp lt.
    none_wanted_by law s.plan.now s.gateway s.held.items plp rules s.plps s.worked settled lt
asks_of law s held (Some plp) is rules t =
    let i = member_input s.plan.now t.turn plp t.next.inside t.next.comes.member in
    record {
      inside = i.0;
      own = i.1;
      none = ap (λ (h : List (Option (List ℕ))). held_at h plp) is ∙ t.next.comes.none;
      some = t.next.comes.some;
    }

-- ---- inputs that go on

pub all_continue : {c : Config} {held : List (Option (List ℕ))} {events done : List Event} (inputs : ℕ → List (List ℕ))
    → Splitting c held events done → InputsContinue c events inputs → AllContinue c done (split c inputs)
all_continue {c} {events = events} {done = done} inputs s k = λ plp lt.
    goes_on c (λ q. offered q events) inputs (λ q. has_ended q events) (told plp done) plp (begun events)
    lt (s.splits.each plp lt) k

-- ---- a packet, and an end

pub offered_works : (c : Config) (g : Gateway) (held after : List (Option (List ℕ))) (events : List Event)
    (plp : ℕ) (packet : List ℕ)
    → IsInput c plp → held_at held plp ≡ None → has_ended plp events ≡ false → held_at after plp ≡ Some packet
    → ((k : ℕ) → k ≢ plp → held_at after k ≡ held_at held k) → Works c g held events
    → Works c g after (events ++ Offered plp packet ∷ [])
offered_works c g held after events plp packet i none off here apart w = record {
  done = w.done;
  stands = w.stands;
  splits = record {
    begun_is = w.splits.begun_is ∙ sym (begun_same events (Offered plp packet) refl);
    given_is = w.splits.given_is ∙ sym (given_same events (Offered plp packet) refl);
    finished_is = w.splits.finished_is ∙ sym (finished_same events (Offered plp packet) refl);
    splits = packet_came plp packet w.splits.splits i none off
        (ap (λ (t : Told). t.packets) (told_offered plp events packet))
        (λ k d. ap (λ (t : Told). t.packets) (other_offered k plp events packet d))
        (λ k. ended_append k events (Offered plp packet ∷ []) ∙ or_false (has_ended k events)) here apart;
  };
}

pub ended_works : {c : Config} {g next : Gateway} {held : List (Option (List ℕ))} {events : List Event} (plp : ℕ)
    → IsInput c plp → held_at held plp ≡ None → has_ended plp events ≡ false
    → ((d : Config) (done : List Event) → GatewayStandsFor g d done → GatewayStandsFor next d (done ++ Ended plp ∷ []))
    → Works c g held events → Works c next held (events ++ Ended plp ∷ [])
ended_works {c = c} {held = held} {events = events} plp i none off stands w = record {
  done = w.done ++ Ended plp ∷ [];
  stands = stands c w.done w.stands;
  splits = record {
    begun_is = begun_same w.done (Ended plp) refl ∙ w.splits.begun_is ∙ sym (begun_same events (Ended plp) refl);
    given_is = given_same w.done (Ended plp) refl ∙ w.splits.given_is ∙ sym (given_same events (Ended plp) refl);
    finished_is = finished_same w.done (Ended plp) refl ∙ w.splits.finished_is
        ∙ sym (finished_same events (Ended plp) refl);
    splits = splits_as (λ k. refl) (λ k. refl) (same_packets w.done) (λ k. refl)
        (input_ended plp w.splits.splits i none off (same_packets events)
        (ap (λ (t : Told). t.ended) (told_ended plp events)) (λ k d. ap (λ (t : Told). t.ended)
        (other_ended k plp events d))
        (ap (λ (t : Told). t.ended) (told_ended plp w.done)) (λ k d. ap (λ (t : Told). t.ended)
        (other_ended k plp w.done d)));
  };
}
  where
    same_packets : (es : List Event) (k : ℕ) → offered k (es ++ Ended plp ∷ []) ≡ offered k es
    same_packets es k = offered_append k es (Ended plp ∷ []) ∙ append-nil (offered k es)

-- ---- a frame, a unit, the end

-- an event that tells nothing of inputs
pub quiet_works : {c : Config} {g next : Gateway} {held : List (Option (List ℕ))} {events : List Event} (e : Event)
    → ((k : ℕ) → packets_to k e ≡ []) → ((k : ℕ) → ends k e ≡ false)
    → ((d : Config) (done : List Event) → GatewayStandsFor g d done → GatewayStandsFor next d (done ++ e ∷ []))
    → Works c g held events → Works c next held (events ++ e ∷ [])
quiet_works {c = c} {events = events} e none off stands w = record {
  done = w.done ++ e ∷ [];
  stands = stands c w.done w.stands;
  splits = record {
    begun_is = begun_with w.done e ∙ ap (λ (n : ℕ). n + cond (begins e) 1 0) w.splits.begun_is
        ∙ sym (begun_with events e);
    given_is = given_with w.done e ∙ ap (λ (n : ℕ). n + cond (gives e) 1 0) w.splits.given_is
        ∙ sym (given_with events e);
    finished_is = list_any-append finishes w.done (e ∷ []) ∙ ap (λ (b : Bool). b || list_any finishes (e ∷ []))
        w.splits.finished_is
        ∙ sym (list_any-append finishes events (e ∷ []));
    splits = splits_as (packets events) (over events) (packets w.done) (over w.done) w.splits.splits;
  };
}
  where
    packets : (es : List Event) (k : ℕ) → offered k (es ++ e ∷ []) ≡ offered k es
    packets es k = offered_append k es (e ∷ []) ∙ rw (none k) (append-nil (offered k es))

    over : (es : List Event) (k : ℕ) → has_ended k (es ++ e ∷ []) ≡ has_ended k es
    over es k = ended_append k es (e ∷ []) ∙ rw (off k) (or_false (has_ended k es))

-- ---- what holds of a struct

pub worked_by : {c : Config} {g next : Gateway} {was is : List (Option (List ℕ))} → ∥ HasWorked c g was ∥₁
    → ((events : List Event) → Works c g was events → (now : List Event) × Works c next is now)
    → ∥ HasWorked c next is ∥₁
worked_by {c} {g} {was = was} w f = ∥∥₁_map w (λ (h : HasWorked c g was). let n = f h.events h.works in
    record { events = n.0; works = n.1 })

-- a place behind the last PLP counts as common
common_beyond : (c : Config) (plp : ℕ) → length c.plps ≤ plp → is_common c plp ≡ true
common_beyond c plp le = ap (λ (p : Plp). is_common_type p.plp_type) (get_or-eq_default c.plps no_plp le)

own_inside : (c : Config) (plp : ℕ) → is_common c plp ≡ false → plp < length c.plps
own_inside c plp own = ⊎_elim (λ (lt : plp < length c.plps). lt)
    (λ (le : length c.plps ≤ plp). absurd (true≢false (sym (common_beyond c plp le) ∙ own)))
    (cases_lt plp (length c.plps))

-- if nothing is wanted nothing is held
pub begun_wanted : (c : Config) (g next : Gateway) (held : List (Option (List ℕ))) → HeldWanted c g held
    → ((plp : ℕ) → plp < length c.plps → wants_of g plp ≡ 0) → HeldWanted c next held
begun_wanted c g next held w none = λ plp own some.
    absurd (let lt = w plp own some in let z = none plp (own_inside c plp own) in omega (arith, lt, z))

pub same_wanted : (c : Config) (g next : Gateway) (held : List (Option (List ℕ))) → HeldWanted c g held
    → ((plp : ℕ) → wants_of next plp ≡ wants_of g plp) → HeldWanted c next held
same_wanted c g next held w same = λ plp own some. (let lt = w plp own some in let e = same plp in omega (arith, lt, e))

pub ended_wanted : (c : Config) (g next : Gateway) (held : List (Option (List ℕ))) (plp : ℕ) → HeldWanted c g held
    → held_at held plp ≡ None → ((other : ℕ) → other ≢ plp → wants_of next other ≡ wants_of g other)
    → HeldWanted c next held
ended_wanted c g next held plp w none others = λ k own some. elim (cases_eq k plp) [
  | inl e ↦ absurd (some (ap (held_at held) e ∙ none))
  | inr d ↦ (let lt = w k own some in let s = others k d in omega (arith, lt, s))
]

pub offered_wanted : (c : Config) (g : Gateway) (held after : List (Option (List ℕ))) (plp : ℕ) → HeldWanted c g held
    → 0 < wants_of g plp → ((k : ℕ) → k ≢ plp → held_at after k ≡ held_at held k) → HeldWanted c g after
offered_wanted c g held after plp w here apart = λ k own some. elim (cases_eq k plp) [
  | inl e ↦ subst (λ (j : ℕ). 0 < wants_of g j) (sym e) here
  | inr d ↦ w k own (λ z. some (apart k d ∙ z))
]

-- an input that is asked for did not end
pub asked_going : {c : Config} {g : Gateway} {held : List (Option (List ℕ))} {events : List Event} (plp : ℕ)
    → plps_of g ≡ length c.plps
    → (w : Works c g held events) → IsInput c plp → 0 < wants_of g plp
    → (has_ended plp events ≡ false) × (wants_of g plp ≡ slots_by c plp (begun w.done * c.ticks) - length
    (offered plp w.done))
asked_going {c} {g} {events = events} plp plps w i some =
    let is = wants_is g c w.done plp w.stands (let lt = i.0 in omega (arith, lt, plps)) in
    let want = some_wanted (has_ended plp w.done) (slots_by c plp (begun w.done * c.ticks))
    (length (offered plp w.done)) (wants_of g plp)
    is some in
    (sym (w.splits.splits.closed_is plp i) ∙ want.is_open, is ∙ rw want.is_open refl)

pub asked_wants : (c : Config) (g : Gateway) (held : List (Option (List ℕ))) (events : List Event) (plp : ℕ)
    → plps_of g ≡ length c.plps
    → Works c g held events → IsInput c plp → held_at held plp ≡ None → 0 < wants_of g plp
    → wants_of g plp ≡ slots_by c plp (begun events * c.ticks) - length (offered plp events)
asked_wants c g held events plp plps w i none some =
    let a = asked_going plp plps w i some in
    let count = none_held plp w.splits.splits i none a.0 in
    let frames = ap (λ (n : ℕ). slots_by c plp (n * c.ticks)) w.splits.begun_is in
    (let e = a.1 in omega (arith, e, count, frames))

-- ---- units

pub kept_works : {c : Config} {g next : Gateway} {held : List (Option (List ℕ))} {events : List Event}
    → ((d : Config) (done : List Event) → GatewayStandsFor g d done → GatewayStandsFor next d done)
    → Works c g held events → Works c next held events
kept_works {c} stands w = record {
  done = w.done;
  stands = stands c w.done w.stands;
  splits = w.splits;
}
