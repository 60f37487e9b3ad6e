-- What a gateway asks for each of whose inputs goes in its own PLP.
use Rattle.std.proofs.Common.{◌≡◌, ℕ, ◌-◌, ◌*◌, ◌<◌, ◌≤◌, Bool, true, false, cond, List, length, Option, Some, None}
use Rattle.std.proofs.Common.{sym, subst, ◌∙◌, arith, inl, inr}
use Rattle.std.specs.Prelude.{◌≢◌, ◌↔◌}
use Rattle.std.proofs.lemmas.Bool.{cases_lt}
use Rattle.plp_config.specs.SlotTime.{slots_by}
use Rattle.plp_config.specs.declared.config.Config.{Config}
use Rattle.common_plp.specs.Sharing.{Apart}
use Rattle.gateway_core.specs.Events.{Event, offered, has_ended, begun, finished}
use Rattle.gateway_core.specs.StandsFor.{GatewayStandsFor, IsLast, plps_of, wants_of, has_finished}
use Rattle.gateway_core.specs.declared.gateway.Gateway.{Gateway}
use Rattle.gateway_core.proofs.WantLemmas.{some_wanted, none_wanted, wants_is}
use Rattle.gateway_run.specs.Apart.{IsFirst, seen_of}
use Rattle.gateway_run.specs.Inputs.{IsLastBy}
use Rattle.gateway_run.specs.Seen.{Asks}
use Rattle.gateway_run.proofs.EventLemmas.{finished_is}

open_wants : (ended : Bool) (slots n wants : ℕ) → wants ≡ cond ended 0 (slots - n) → ended ≡ false → wants ≡ slots - n
open_wants true slots n wants e off = absurd (let z : true ≡ false = off in cc)
open_wants false slots n wants e off = e

-- a look from a place on finds what one over all inputs would, if nothing is wanted of those below
pub first_of_all : (g : Gateway) (from count : ℕ) (asked : Option ℕ) → ((k : ℕ) → k < from → wants_of g k ≡ 0)
    → IsFirst g from count asked → IsFirst g 0 count asked
first_of_all g from count None below l =
    λ k zero lt. elim (cases_lt k from) [ inl before ↦ below k before | inr ge ↦ l k ge lt ]
first_of_all g from count (Some plp) below l =
    (l.0, l.1, λ k zero lt. elim (cases_lt k from) [ inl before ↦ below k before | inr ge ↦ l.2 k ge lt ])

-- behind a packet or an end of the input that was asked for
pub first_on : (g next : Gateway) (count plp : ℕ) (asked : Option ℕ) → ((k : ℕ) → k < plp → wants_of g k ≡ 0)
    → ((k : ℕ) → k ≢ plp → wants_of next k ≡ wants_of g k) → IsFirst next plp count asked → IsFirst next 0 count asked
first_on g next count plp asked below others =
    first_of_all next plp count asked (λ k lt. others k (λ e. absurd (omega (arith, lt, e))) ∙ below k lt)

module _ (g : Gateway) (c : Config) (plps : plps_of g ≡ length c.plps) (is_open : has_finished g ≡ false) where
  none_left : (events : List Event) (plp : ℕ) → GatewayStandsFor g c events → plp < length c.plps → wants_of g plp ≡ 0
      → has_ended plp events ≡ false → slots_by c plp (begun events * c.ticks) ≤ length (offered plp events)
  none_left events plp s lt = none_wanted (has_ended plp events) (slots_by c plp (begun events * c.ticks))
      (length (offered plp events)) (wants_of g plp) (wants_is g c events plp s (omega (arith, plps, lt)))

  going : (events : List Event) → GatewayStandsFor g c events → finished events ≡ false
  going events s = sym (finished_is g c events s) ∙ is_open

  asks_for : (asked : Option ℕ) → IsFirst g 0 (length c.plps) asked → Asks Apart c (seen_of g c) asked
  asks_for None l = record {
    is_of = plps;
    asks = l;
    inside = tt;
    right = λ events s plp lt. none_left events plp s lt (l plp (omega arith) lt);
    is_going = going;
  }
  asks_for (Some plp) l = record {
    is_of = plps;
    asks = l;
    inside = l.0;
    right = λ events s.
        let slots : ℕ = slots_by c plp (begun events * c.ticks) in
        let lt = l.0 in
        let is = wants_is g c events plp s (omega (arith, plps, lt)) in
        let wanted = some_wanted (has_ended plp events) slots (length (offered plp events)) (wants_of g plp) is l.1 in
        record {
          inside = l.0;
          is_open = wanted.is_open;
          less = wanted.less;
          wants_are = open_wants (has_ended plp events) slots (length (offered plp events)) (wants_of g plp)
              is wanted.is_open;
          below = λ other inside before. none_left events other s inside (l.2 other (omega arith) before);
        };
    is_going = going;
  }

  pub asks_apart : (count : ℕ) → count ≡ length c.plps → (asked : Option ℕ) → IsFirst g 0 count asked
      → Asks Apart c (seen_of g c) asked
  asks_apart count all asked l = asks_for asked (subst (λ (n : ℕ). IsFirst g 0 n asked) all l)

pub last_apart : (c : Config) (events : List Event) (told : Bool) → (told ≡ true) ↔ IsLast c events
    → (told ≡ true) ↔ IsLastBy Apart c events
last_apart c events told iff = (
  λ on. let last : IsLast c events = iff.0 on in record { ended = last.ended; frames = last.frames },
  λ last. iff.1 (record { ended = last.ended; frames = last.frames }),
)
