-- Which packet is wanted first.
use Rattle.std.proofs.Common.{◌≡◌, ℕ, ◌-◌, ◌*◌, ◌<◌, ◌≤◌, true, false, List, length, Some, None, refl, ap, sym, subst}
use Rattle.std.proofs.Common.{◌∙◌, inl, inr, arith, ⊎_elim}
use Rattle.std.specs.Prelude.{unwrap_or}
use Rattle.std.specs.declared.option.Option.{Option}
use Rattle.std.proofs.lemmas.Bool.{cases_lt, true≢false, false_from_ne_true}
use Rattle.std.proofs.lemmas.Grind.{not_there}
use Rattle.std.proofs.lemmas.Option.{slice_get_past}
use Rattle.terms.proofs.CaseLemmas.{bool_cases}
use Rattle.gateway_core.proofs.WantLemmas.{wants_is, some_wanted, none_wanted}
use Rattle.plp_config.specs.Rules.{AllRules}
use Rattle.plp_config.specs.SlotTime.{slots_by}
use Rattle.plp_config.specs.declared.config.Config.{Config}
use Rattle.common_plp.specs.Groups.{is_common, common_of}
use Rattle.common_plp.specs.Laws.{InStep}
use Rattle.common_plp.proofs.LawLemmas.{has_common}
use Rattle.gateway_core.specs.Events.{Event, offered, has_ended, begun}
use Rattle.gateway_core.specs.StandsFor.{plps_of, wants_of}
use Rattle.gateway_core.specs.declared.gateway.Gateway.{Gateway}
use Rattle.gateway_core.specs.Order.{IsInput, turn_of, is_member, IsWanted, IsWantedFirst}
use Rattle.gateway_core.specs.SplitStandsFor.{FindsWanted}
use Rattle.gateway_core.specs.Works.{Works, HasWorked, AreSettled, ComesOfTurn, FindsFirst}
use Rattle.gateway_core.proofs.MemberLemmas.{member_input, self_member, turn_common, turn_is}
use Rattle.gateway_core.proofs.SplitLemmas.{none_held}
use Rattle.gateway_core.proofs.WorkLemmas.{same_slots}

-- ---- the first PLP of a group

record IsFirst (c : Config) (turn : ℕ) : Type 0 where
  first : common_of c turn ≡ None
  inside : turn < length c.plps

first_by : (c : Config) (plp : ℕ) → plp < length c.plps → (o : Option ℕ) → common_of c plp ≡ o
    → IsFirst c (unwrap_or o plp)
first_by c plp inside None e = record { first = e; inside = inside }
first_by c plp inside (Some m) e =
    let h = has_common c plp m e in record { first = (let i = h.is in rw i refl); inside = h.inside }

turn_first : (c : Config) (plp : ℕ) → plp < length c.plps → IsFirst c (turn_of c plp)
turn_first c plp inside = first_by c plp inside (common_of c plp) refl

-- ---- what came, and what went on

-- what is known of an input that did not end
record Alive (c : Config) (g : Gateway) (held : List (Option (List ℕ))) (events : List Event)
    (w : Works c g held events) (plp : ℕ)
    : Type 0 where
  going : has_ended plp w.done ≡ false
  first : has_ended (turn_of c plp) w.done ≡ false
  count : length (offered plp w.done) ≡ length (offered (turn_of c plp) w.done)
  least : length (offered plp w.done) ≤ length (offered plp events)
  slots : slots_by c (turn_of c plp) (begun w.done * c.ticks) ≡ slots_by c plp (begun w.done * c.ticks)
  wants : wants_of g plp ≡ slots_by c plp (begun w.done * c.ticks) - length (offered plp w.done)

module _ (law : InStep) {c : Config} {g : Gateway} {held : List (Option (List ℕ))} {events : List Event}
    (rules : AllRules c) (plps : plps_of g ≡ length c.plps) (w : Works c g held events) where
  alive : (plp : ℕ) → IsInput c plp → has_ended plp events ≡ false → Alive c g held events w plp
  alive plp i off =
      let s = w.splits.splits in
      let f = turn_first c plp i.0 in
      let going : has_ended plp w.done ≡ false = s.closed_is plp i ∙ off in
      record {
        going = going;
        first = false_from_ne_true (has_ended (turn_of c plp) w.done)
            (λ on. true≢false (sym ((s.each (turn_of c plp) f.inside).whole on plp i.0 (self_member c plp i)).0 ∙ off));
        count = s.step plp i off;
        least = elim ((s.each plp i.0).settled plp i.0 (self_member c plp i)) [
          | inl le ↦ le
          | inr on ↦ absurd (true≢false (sym on ∙ off))
        ];
        slots = same_slots law c plp (begun w.done * c.ticks) rules i.0 (common_of c plp) refl;
        wants = wants_is g c w.done plp w.stands (let lt = i.0 in omega (arith, lt, plps)) ∙ rw going refl;
      }

  -- of a group that is settled nothing is wanted
  alive_settled : (plp : ℕ) → IsInput c plp → has_ended plp events ≡ false → wants_of g (turn_of c plp) ≡ 0
      → slots_by c plp (begun w.done * c.ticks) ≤ length (offered plp w.done)
  alive_settled plp i off none =
      let a = alive plp i off in
      let f = turn_first c plp i.0 in
      let n = none_wanted (has_ended (turn_of c plp) w.done) (slots_by c (turn_of c plp) (begun w.done * c.ticks))
      (length (offered (turn_of c plp) w.done)) (wants_of g (turn_of c plp))
      (wants_is g c w.done (turn_of c plp) w.stands (let lt = f.inside in omega (arith, lt, plps))) none a.first in
      (let s = a.slots in let k = a.count in omega (arith, n, s, k))

  none_wanted_at : (plp : ℕ) → AreSettled c g (length c.plps) → plp < length c.plps → wants_of g plp ≡ 0
  none_wanted_at plp settled inside =
      let f = turn_first c plp inside in
      let first = settled (turn_of c plp) f.inside f.first in
      bool_cases (is_common c plp)
      (λ common. ap (wants_of g) (sym (turn_common c plp common)) ∙ first)
      (λ own. bool_cases (has_ended plp events)
      (λ on. wants_is g c w.done plp w.stands (omega (arith, inside, plps))
      ∙ rw (w.splits.splits.closed_is plp (inside, own) ∙ on) refl)
      (λ off.
      let le = alive_settled plp (inside, own) off first in
      let is = (alive plp (inside, own) off).wants in
      omega (arith, le, is)))

  -- ---- the first that is wanted

  settled_not : (plp : ℕ) → wants_of g (turn_of c plp) ≡ 0 → ¬ (IsWanted c events plp)
  settled_not plp none wanted =
      let le = alive_settled plp wanted.input wanted.is_open none in
      let a = alive plp wanted.input wanted.is_open in
      let least = a.least in
      let less = wanted.less in
      let frames = ap (λ (n : ℕ). slots_by c plp (n * c.ticks)) w.splits.begun_is in
      omega (arith, le, least, less, frames)

  comes_first : (plp : ℕ) → ComesOfTurn c g held plp → IsWantedFirst c events plp
  comes_first plp t =
      let s = w.splits.splits in
      let n = t.next in
      let i = member_input c t.turn plp n.inside n.comes.member in
      let at = turn_is c t.turn plp rules t.inside t.first n.comes.member in
      let frames : (k : ℕ) → slots_by c k (begun w.done * c.ticks) ≡ slots_by c k (begun events * c.ticks) =
      λ k. ap (λ (n : ℕ). slots_by c k (n * c.ticks)) w.splits.begun_is in
      let want = some_wanted (has_ended plp w.done) (slots_by c plp (begun w.done * c.ticks))
      (length (offered plp w.done)) (wants_of g plp)
      (wants_is g c w.done plp w.stands (let lt = n.inside in omega (arith, lt, plps))) n.comes.some in
      let off : has_ended plp events ≡ false = sym (s.closed_is plp i) ∙ want.is_open in
      let count = none_held plp s i n.comes.none off in
      let a = alive plp i off in
      record {
        wanted = record {
          input = i;
          is_open = off;
          less = (let less = want.less in let f = frames plp in omega (arith, less, count, f));
        };
        first = λ other wanted earlier.
            let b = alive other wanted.input wanted.is_open in
            elim earlier [
              | inl before ↦
                  let f = turn_first c other wanted.input.0 in
                  settled_not other (t.before (turn_of c other)
                  (omega (arith, before, at)) f.first) wanted
              | inr same ↦
                  let here = ap (λ (k : ℕ). length (offered k w.done)) same.0 in
                  let ka = a.count in let kb = b.count in let least = b.least in
                  elim same.1 [
                    | inl less ↦ omega (arith, less, here, ka, kb, least, count)
                    | inr tie ↦
                        let equal = tie.0 in
                        let member : is_member c t.turn other ≡ true =
                        subst (λ (k : ℕ). is_member c k other ≡ true) (same.0 ∙ at)
                        (self_member c other wanted.input) in
                        let less = wanted.less in let fr = frames other in let wants = b.wants in
                        elim (n.before other tie.1 member) [
                          | inl none ↦ omega (arith, none, wants, less, fr, equal, here, ka, kb, count)
                          | inr some ↦ some (s.held_is other wanted.input
                              ∙ slice_get_past (offered other events) (length (offered other w.done))
                              (omega (arith, equal, here, ka, kb, count)))
                        ]
                  ]
            ];
      }

  pub finds_wanted : (o : Option ℕ) → FindsFirst c g held o → FindsWanted c events o
  finds_wanted None settled = λ plp wanted.
      let f = turn_first c plp wanted.input.0 in
      settled_not plp (settled (turn_of c plp) f.inside f.first) wanted
  finds_wanted (Some plp) t = comes_first plp t

-- whatever came
pub none_wanted_by : InStep → (c : Config) (g : Gateway) (held : List (Option (List ℕ))) (plp : ℕ) → AllRules c
    → plps_of g ≡ length c.plps → ∥ HasWorked c g held ∥₁ → AreSettled c g (length c.plps) → plp < length c.plps
    → wants_of g plp ≡ 0
none_wanted_by law c g held plp rules plps worked settled inside =
    ⊎_elim (λ (some : 0 < wants_of g plp). absurd (not_there worked (λ (w : HasWorked c g held).
    let none = none_wanted_at law rules plps w.works plp settled inside in omega
    (arith, some, none))))
    (λ (none : wants_of g plp ≤ 0). omega (arith, none)) (cases_lt 0 (wants_of g plp))
