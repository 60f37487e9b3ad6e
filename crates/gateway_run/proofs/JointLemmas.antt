-- A gateway with common PLPs, by its inputs.
use Rattle.std.proofs.Common.{◌≡◌, ℕ, ◌+◌, ◌-◌, ◌*◌, ◌<◌, ◌≤◌, Bool, true, false, List, length, None, ap, sym, subst}
use Rattle.std.proofs.Common.{◌∙◌, inl, inr, arith}
use Rattle.std.specs.Prelude.{◌↔◌, Some}
use Rattle.std.proofs.lemmas.Bool.{cases_lt}
use Rattle.plp_config.specs.Rules.{AllRules}
use Rattle.plp_config.specs.SlotTime.{slots_by}
use Rattle.plp_config.specs.declared.config.Config.{Config}
use Rattle.common_plp.specs.Groups.{is_common}
use Rattle.common_plp.specs.Inputs.{commons, place_of, input_count}
use Rattle.common_plp.specs.Sharing.{Joint}
use Rattle.common_plp.specs.Split.{split}
use Rattle.common_plp.proofs.InputLemmas.{behind_own, place_inside, place_own}
use Rattle.gateway_core.specs.Events.{Event, offered, has_ended, begun, finished}
use Rattle.gateway_core.specs.InputSoFar.{told, Continues}
use Rattle.gateway_core.proofs.LawLemmas.{frame_count_same}
use Rattle.gateway_core.specs.Continuing.{InputsContinue, IsLast, frames_of}
use Rattle.gateway_core.specs.Order.{IsInput, IsWanted, IsWantedFirst, turn_of}
use Rattle.gateway_core.specs.SplitStandsFor.{SplitGatewayStandsFor, IsAsked, NoneWanted, config_of, has_finished}
use Rattle.gateway_core.specs.SplitStandsFor.{wants_of}
use Rattle.gateway_core.specs.declared.split_gateway.SplitGateway.{SplitGateway}
use Rattle.gateway_core.proofs.MemberLemmas.{member_input, split_depends}
use Rattle.gateway_core.proofs.StandLemmas.{asked_wants}
use Rattle.gateway_run.specs.Holds.{HasAll}
use Rattle.gateway_run.specs.Inputs.{Continue, frames_by, IsLastBy}
use Rattle.gateway_run.specs.Joint.{seen_of}
use Rattle.gateway_run.specs.Seen.{Asks}
use Rattle.gateway_run.proofs.EventLemmas as core

-- a PLP that is not common has an input
back_inside : (c : Config) (plp : ℕ) → IsInput c plp → plp - commons c.plps < input_count Joint c
back_inside c plp i = let inside = i.0 in let behind = behind_own c plp i.1 in omega (arith, inside, behind)

back_place : (c : Config) (plp : ℕ) → IsInput c plp → place_of Joint c (plp - commons c.plps) ≡ plp
back_place c plp i = let behind = behind_own c plp i.1 in omega (arith, behind)

is_input : (c : Config) (input : ℕ) → AllRules c → input < input_count Joint c → IsInput c (place_of Joint c input)
is_input c input rules lt = (place_inside Joint c input lt, place_own c input rules lt)

-- inputs by the PLPs that they go in
abbrev pub by_plp : Config → (ℕ → List (List ℕ)) → ℕ → List (List ℕ)
by_plp c inputs plp = inputs (plp - commons c.plps)

-- what continues what came of the inputs continues what came of their PLPs
pub continues_joint : (c : Config) (events : List Event) (inputs : ℕ → List (List ℕ)) → Continue Joint c events inputs
    → InputsContinue c events (by_plp c inputs)
continues_joint c events inputs k = λ plp i.
    subst (λ (p : ℕ). Continues (told p events) (by_plp c inputs plp)) (back_place c plp i)
    (k (plp - commons c.plps) (back_inside c plp i))

-- ---- the last frame

frames_joint : (c : Config) (events : List Event)
    → frames_by Joint c (λ input. offered (place_of Joint c input) events) ≡ frames_of c (λ plp. offered plp events)
frames_joint c events =
    let by : ℕ → List (List ℕ) = λ plp. offered (plp - commons c.plps + commons c.plps) events in
    frame_count_same c (λ plp. length (split c by plp)) (λ plp. length (split c (λ k. offered k events) plp))
    (λ plp lt. ap (λ (l : List (List ℕ)). length l) (split_depends c by (λ k. offered k events) plp lt
    (λ source inside member.
    ap (λ (k : ℕ). offered k events) (back_place c source (member_input c (turn_of c plp) source inside member)))))

last_there : (c : Config) (events : List Event) → AllRules c → IsLast c events → IsLastBy Joint c events
last_there c events rules last = record {
  ended = λ input lt. last.ended (place_of Joint c input) (is_input c input rules lt);
  frames = last.frames ∙ sym (frames_joint c events);
}

last_back : (c : Config) (events : List Event) → IsLastBy Joint c events → IsLast c events
last_back c events last = record {
  ended = λ plp i. subst (λ (k : ℕ). has_ended k events ≡ true) (back_place c plp i)
      (last.ended (plp - commons c.plps) (back_inside c plp i));
  frames = last.frames ∙ frames_joint c events;
}

pub last_joint : (c : Config) (events : List Event) (told : Bool) → AllRules c → (told ≡ true) ↔ IsLast c events
    → (told ≡ true) ↔ IsLastBy Joint c events
last_joint c events told rules iff = (
  λ on. last_there c events rules (iff.0 on),
  λ last. iff.1
      (last_back c events last),
)

-- ---- what was looked for

-- what a gateway tells of its events
pub finished_is : (s : SplitGateway) (c : Config) (events : List Event) → SplitGatewayStandsFor s c events
    → has_finished s ≡ finished events
unfolding SplitGatewayStandsFor
finished_is s c events stands =
    core.finished_is s.gateway s.plan.now stands.1.done stands.1.stands ∙ stands.1.splits.finished_is

wants_is : (s : SplitGateway) (c : Config) (events : List Event) (plp : ℕ) → SplitGatewayStandsFor s c events
    → IsAsked s plp
    → wants_of s plp ≡ slots_by c plp (begun events * c.ticks) - length (offered plp events)
unfolding SplitGatewayStandsFor
wants_is s c events plp stands asked =
    subst (λ (e : Config). wants_of s plp ≡ slots_by e plp (begun events * e.ticks) - length (offered plp events))
    stands.0
    (asked_wants s.plan.now s.gateway s.held.items events plp s.plps stands.1 (asked.inside, asked.own)
    asked.none asked.some)

-- An input has all if none of it is wanted.
has_all : (c : Config) (events : List Event) (input : ℕ) → AllRules c → input < input_count Joint c
    → (IsWanted c events (place_of Joint c input) → ⊥) → HasAll Joint c events input
has_all c events input rules lt never off =
    let plp : ℕ = place_of Joint c input in
    elim (cases_lt (length (offered plp events)) (slots_by c plp (begun events * c.ticks))) [
      | inl less ↦ absurd (never (record { input = is_input c input rules lt; is_open = off; less = less }))
      | inr ge ↦ ge
    ]

-- it is not before the common PLPs
pub never_before : (s : SplitGateway) (c : Config) (plp first : ℕ) → config_of s ≡ c → first ≡ commons c.plps
    → IsAsked s plp
    → first ≤ plp
never_before s c plp first same count asked =
    let behind = behind_own c plp (subst (λ (d : Config). is_common d plp ≡ false) same asked.own) in
    omega (arith, behind, count)

module _ (s : SplitGateway) (c : Config) (rules : AllRules c) (same : config_of s ≡ c)
    (is_open : has_finished s ≡ false) where
  going : (events : List Event) → SplitGatewayStandsFor s c events → finished events ≡ false
  going events stands = sym (finished_is s c events stands) ∙ is_open

  -- It asks for none,
  pub asks_none : NoneWanted s → ((events : List Event) → SplitGatewayStandsFor s c events → (plp : ℕ)
      → ¬ (IsWanted c events plp))
      → Asks Joint c (seen_of s c) None
  asks_none none never = record {
    is_of = same;
    asks = none;
    inside = tt;
    right = λ events stands input lt. has_all c events input rules lt (never events stands (place_of Joint c input));
    is_going = going;
  }

  -- or for one.
  pub asks_one : (plp first : ℕ) → first ≡ commons c.plps → IsAsked s plp
      → ((events : List Event) → SplitGatewayStandsFor s c events → IsWantedFirst c events plp)
      → Asks Joint c (seen_of s c) (Some (plp - first))
  asks_one plp first count asked wants =
      let own = subst (λ (d : Config). is_common d plp ≡ false) same asked.own in
      let behind = behind_own c plp own in
      let inside = subst (λ (d : Config). plp < length d.plps) same asked.inside in
      let at : plp ≡ place_of Joint c (plp - first) = omega (arith, behind, count) in
      let asks = subst (λ (k : ℕ). IsAsked s k) at asked in
      record {
        is_of = same;
        asks = asks;
        inside = omega (arith, inside, behind, count);
        right = λ events stands.
            let f = subst (λ (k : ℕ). IsWantedFirst c events k) at (wants events stands) in
            record {
              inside = omega (arith, inside, behind, count);
              is_open = f.wanted.is_open;
              less = f.wanted.less;
              wants_are = wants_is s c events (place_of Joint c (plp - first)) stands asks;
              below = λ other lt before.
                  has_all c events other rules lt (λ wanted. f.first (place_of Joint c other) wanted before);
            };
        is_going = going;
      }
