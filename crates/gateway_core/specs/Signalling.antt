-- The dynamic part of the L1 signalling that a frame carries, as bits (EN 302 755, clause 7.2.3).
use Rattle.std.specs.Prelude.{ℕ, Bool, List}
use Rattle.plp_config.specs.declared.config.Config.{Config}
use Rattle.scheduler.specs.Shape.{shape_of}
use Rattle.l1_signal.specs.L1Dynamic.{dyn_bits}
use Rattle.l1_signal.specs.L1Of.{dyn_of}

-- the dynamic part of a frame with so many blocks of each PLP
unfoldable pub dyn_part : Config → ℕ → List ℕ → List Bool
dyn_part c frame counts = dyn_bits (dyn_of c frame (shape_of c counts))
