-- The frames of a run, sent again.
use Rattle.std.specs.Prelude.{◌≡◌, ℕ, List, map}
use Rattle.std.specs.List.{range_with_len}
use Rattle.plp_config.specs.Capacity.{IsPlan}
use Rattle.plp_config.specs.declared.config.Config.{Config}
use Rattle.record_laws.specs.Frames.{frame_of}
use Rattle.gateway_core.specs.Packets.{front_packets}
use Rattle.stream_laws.specs.Remade.{NumberedView, remade_packets}

-- a frame of a run, with its number
abbrev pub run_frame : Config → (ℕ → List (List ℕ)) → ℕ → NumberedView
run_frame c inputs n = record { number = n; view = frame_of c inputs n }

-- If the first frames of a run are sent again, the packets are those that the gateway sends.
abbrev pub RunSentAgain : Type 0
RunSentAgain = (c : Config) (inputs : ℕ → List (List ℕ)) (n : ℕ) → IsPlan c
    → remade_packets c (map (run_frame c inputs) (range_with_len 0 n)) ≡ front_packets c inputs n
