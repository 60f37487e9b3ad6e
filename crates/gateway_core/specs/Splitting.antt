-- How what came of the inputs went on to a gateway. No public clause cites this module.
use Rattle.std.specs.Prelude.{◌≡◌, ◌⊎◌, ℕ, ◌+◌, ◌<◌, ◌≤◌, Bool, true, false, List, length, take, slice_get}
use Rattle.std.specs.declared.option.Option.{Option}
use Rattle.plp_config.specs.declared.config.Config.{Config}
use Rattle.common_plp.specs.Split.{split}
use Rattle.gateway_core.specs.Events.{Event, offered, has_ended, begun, given, finished}
use Rattle.gateway_core.specs.Order.{IsInput, turn_of, is_member}
use Rattle.gateway_core.specs.Slots.{held_at}

-- Packets came of each input, and some inputs ended. A PLP was given the first slots of its stream, and these are
-- decided. Once its stream was closed all its slots were given.
pub record IsSplit (c : Config) (came : ℕ → List (List ℕ)) (over : ℕ → Bool) (gave : List (List ℕ)) (closed : Bool)
    (plp : ℕ) : Type 0 where
  pub settled : (source : ℕ) → source < length c.plps → is_member c (turn_of c plp) source ≡ true
      → (length gave ≤ length (came source)) ⊎ (over source ≡ true)
  pub front : gave ≡ take (length gave) (split c came plp)
  pub whole : closed ≡ true → (source : ℕ) → source < length c.plps → is_member c plp source ≡ true
      → (over source ≡ true) × (length (came source) ≤ length gave)

-- So it is for each PLP; one packet more than went on is held at most of each input; and of the inputs of a group that
-- did not end so many went on.
pub record SplitsAt (c : Config) (at : ℕ → ℕ) (held : List (Option (List ℕ))) (came : ℕ → List (List ℕ)) (over : ℕ
    → Bool)
    (gave : ℕ → List (List ℕ)) (closed : ℕ → Bool) : Type 0 where
  pub each : (plp : ℕ) → plp < length c.plps → IsSplit c came over (gave plp) (closed plp) plp
  pub closed_is : (plp : ℕ) → IsInput c plp → closed plp ≡ over plp
  pub held_is : (plp : ℕ) → IsInput c plp → held_at held plp ≡ slice_get (came plp) (length (gave plp))
  pub few : (plp : ℕ) → IsInput c plp → length (came plp) ≤ length (gave plp) + 1
  pub behind : (plp : ℕ) → IsInput c plp → length (gave plp) ≤ length (gave (turn_of c plp))
  pub step : (plp : ℕ) → IsInput c plp → over plp ≡ false → length (gave plp) ≡ at plp

-- between two slots as many as of the first PLP of the group
abbrev pub Splits : Config → List (Option (List ℕ)) → (ℕ → List (List ℕ)) → (ℕ → Bool) → (ℕ → List (List ℕ))
    → (ℕ → Bool) → Type 0
Splits c held came over gave closed = SplitsAt c (λ plp. length (gave (turn_of c plp))) held came over gave closed

-- These events were split into those of a gateway.
pub record Splitting (c : Config) (held : List (Option (List ℕ))) (events done : List Event) : Type 0 where
  pub begun_is : begun done ≡ begun events
  pub given_is : given done ≡ given events
  pub finished_is : finished done ≡ finished events
  pub splits : Splits c held (λ plp. offered plp events) (λ plp. has_ended plp events) (λ plp. offered plp done)
      (λ plp. has_ended plp done)
