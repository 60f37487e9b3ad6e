-- Which inputs continue what came of them, and when the last frame was begun.
use Rattle.std.specs.Prelude.{◌≡◌, ℕ, true, List, length}
use Rattle.plp_config.specs.RunLength.{frame_count}
use Rattle.plp_config.specs.declared.config.Config.{Config}
use Rattle.common_plp.specs.Split.{split}
use Rattle.gateway_core.specs.Events.{Event, offered, has_ended, begun}
use Rattle.gateway_core.specs.InputSoFar.{told, Continues}
use Rattle.gateway_core.specs.Order.{IsInput}

-- Inputs continue what events tell of each.
abbrev pub InputsContinue : Config → List Event → (ℕ → List (List ℕ)) → Type 0
InputsContinue c events inputs = (plp : ℕ) → IsInput c plp → Continues (told plp events) (inputs plp)

-- how many frames a run has, by its inputs
abbrev pub frames_of : Config → (ℕ → List (List ℕ)) → ℕ
frames_of c inputs = frame_count c (λ plp. length (split c inputs plp))

-- All inputs ended, and as many frames were begun as their streams need.
pub record IsLast (c : Config) (events : List Event) : Type 0 where
  pub ended : (plp : ℕ) → IsInput c plp → has_ended plp events ≡ true
  pub frames : begun events ≡ frames_of c (λ plp. offered plp events)
