-- The inputs of a run: which continue what came of them, in which order they are looked at, and when the last frame was
-- begun.
use Rattle.std.specs.Prelude.{◌≡◌, ◌<◌, ℕ, true, List, length}
use Rattle.plp_config.specs.RunLength.{frame_count}
use Rattle.plp_config.specs.declared.config.Config.{Config}
use Rattle.common_plp.specs.Inputs.{place_of, input_count, streams_by}
use Rattle.common_plp.specs.Sharing.{Sharing, Apart, Joint}
use Rattle.gateway_core.specs.Events.{Event, offered, has_ended, begun}
use Rattle.gateway_core.specs.InputSoFar.{told, Continues}
use Rattle.gateway_core.specs.Order.{IsEarlier}

-- Inputs continue what events tell of the PLP of each.
abbrev pub Continue : Sharing → Config → List Event → (ℕ → List (List ℕ)) → Type 0
Continue w c events inputs = (input : ℕ) → input < input_count w c → Continues (told (place_of w c input) events)
    (inputs input)

-- A slot of an input is looked at before one of another: input by input; or, if common PLPs carry what is shared, group
-- by group, slot by slot and input by input.
abbrev pub IsBefore : Sharing → Config → ℕ → ℕ → ℕ → ℕ → Type 0
IsBefore Apart c input slot other late = input < other
IsBefore Joint c input slot other late = IsEarlier c (place_of Joint c input) slot (place_of Joint c other) late

-- how many frames a run has, by its inputs
abbrev pub frames_by : Sharing → Config → (ℕ → List (List ℕ)) → ℕ
frames_by w c inputs = frame_count c (λ plp. length (streams_by w c inputs plp))

-- All inputs ended, and as many frames were begun as what goes in the PLPs needs.
pub record IsLastBy (w : Sharing) (c : Config) (events : List Event) : Type 0 where
  pub ended : (input : ℕ) → input < input_count w c → has_ended (place_of w c input) events ≡ true
  pub frames : begun events ≡ frames_by w c (λ input. offered (place_of w c input) events)
