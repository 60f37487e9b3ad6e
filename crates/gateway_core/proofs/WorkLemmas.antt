-- What a gateway wants, and what holds behind a slot that went on.
use Rattle.std.proofs.Common.{◌≡◌, ◌≢◌, ℕ, zero, suc, ◌+◌, ◌-◌, ◌*◌, ◌<◌, ◌≤◌, true, false, List}
use Rattle.std.proofs.Common.{length, Some, None, refl, ap, sym, ◌∙◌, inl, inr, arith}
use Rattle.std.specs.Prelude.{is_some, unwrap_or}
use Rattle.std.specs.declared.option.Option.{Option}
use Rattle.std.proofs.lemmas.Bool.{true≢false, and_parts}
use Rattle.terms.proofs.CaseLemmas.{bool_cases}
use Rattle.gateway_core.proofs.WantLemmas.{wants_is, some_wanted}
use Rattle.plp_config.specs.Rules.{AllRules}
use Rattle.plp_config.specs.SlotTime.{slots_by, slot_count}
use Rattle.plp_config.specs.declared.config.Config.{Config}
use Rattle.plp_config.specs.declared.slot_times.SlotTimes.{SlotTimes}
use Rattle.common_plp.specs.Groups.{common_of}
use Rattle.common_plp.specs.Laws.{InStep}
use Rattle.gateway_core.specs.Events.{Event, offered, has_ended, begun}
use Rattle.gateway_core.specs.StandsFor.{GatewayStandsFor, plps_of, wants_of}
use Rattle.gateway_core.specs.declared.gateway.Gateway.{Gateway}
use Rattle.gateway_core.specs.Order.{is_member}
use Rattle.gateway_core.specs.Slots.{held_at, is_held_in, any_held, HasCome}
use Rattle.gateway_core.specs.Splitting.{Splits}
use Rattle.gateway_core.proofs.MemberLemmas.{member_input, turn_is}
use Rattle.gateway_core.proofs.RangeLemmas.{any_more}
use Rattle.gateway_core.proofs.SlotLemmas.{IsReady, HasSome}

-- ---- what is wanted

-- of the group of a common PLP as many slots are over
pub same_slots : InStep → (c : Config) (plp tick : ℕ) → AllRules c → plp < length c.plps → (o : Option ℕ)
    → common_of c plp ≡ o
    → slots_by c (unwrap_or o plp) tick ≡ slots_by c plp tick
same_slots law c plp tick rules inside None e = refl
same_slots law c plp tick rules inside (Some common) e =
    ap (λ (t : SlotTimes). slot_count t.num t.den tick) (law c plp common rules inside e).0

-- the four of what came and went
abbrev pub Came : Config → List (Option (List ℕ)) → List Event → List Event → Type 0
Came c held events done =
    Splits c held (λ plp. offered plp events) (λ plp. has_ended plp events) (λ plp. offered plp done)
    (λ plp. has_ended plp done)

-- All of a slot has come of a group of which something is wanted: a packet is wanted of each input that did not end.
pub ready_of : InStep → (c : Config) (g : Gateway) (held : List (Option (List ℕ))) (events done : List Event) (turn : ℕ)
    → AllRules c
    → plps_of g ≡ length c.plps → GatewayStandsFor g c done → Came c held events done → turn < length c.plps
    → common_of c turn ≡ None → 0 < wants_of g turn → ((plp : ℕ) → plp < length c.plps → HasCome c g held turn plp)
    → IsReady c held (λ plp. has_ended plp events) (λ plp. has_ended plp done) turn
ready_of law c g held events done turn rules plps stands s inside first some come =
    let tick : ℕ = begun done * c.ticks in
    let lead = some_wanted (has_ended turn done) (slots_by c turn tick) (length (offered turn done)) (wants_of g turn)
    (wants_is g c done turn stands (omega (arith, inside, plps))) some in
    record {
      rules = rules;
      inside = inside;
      first = first;
      going = lead.is_open;
      come = λ plp lt member going. elim (come plp lt member) [
        | inl none ↦ absurd (
            let i = member_input c turn plp lt member in
            let t = turn_is c turn plp rules inside first member in
            let off : has_ended plp done ≡ false = s.closed_is plp i ∙ going in
            let count = s.step plp i going ∙ ap (λ (k : ℕ). length (offered k done)) t in
            let slots = sym (same_slots law c plp tick rules lt (common_of c plp) refl)
            ∙ ap (λ (k : ℕ). slots_by c k tick) t in
            let is : wants_of g plp ≡ slots_by c plp tick - length (offered plp done) =
            wants_is g c done plp stands (omega (arith, lt, plps)) ∙ rw off refl in
            omega (arith, is, count, slots, lead.less, none))
        | inr is ↦ is
      ];
    }

pub some_held : (c : Config) (held : List (Option (List ℕ))) (turn n : ℕ) → n ≤ length c.plps
    → any_held c held turn n ≡ true
    → HasSome c held turn
some_held c held turn zero le e = absurd (true≢false (sym e))
some_held c held turn (suc n) le e =
    bool_cases (any_held c held turn n) (λ on. some_held c held turn n (omega (arith, le)) on)
    (λ off. bool_cases (is_held_in c held turn n)
    (λ on. let b = and_parts (is_member c turn n) (is_some (held_at held n)) on in
    record { plp = n; inside = omega (arith, le); member = b.0; some = is_there (held_at held n) b.1 })
    (λ no. absurd (true≢false (sym e ∙ (let k : suc n ≡ n + 1 = omega arith in ap (any_held c held turn) k)
    ∙ any_more (is_held_in c held turn) n off no))))
  where
    is_there : (o : Option (List ℕ)) → is_some o ≡ true → o ≢ None
    is_there None on f = true≢false (sym on)
    is_there (Some x) on f = true≢false (sym on ∙ ap is_some f)
