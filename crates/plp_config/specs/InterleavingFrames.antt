-- Interleaving frames (EN 302 755, clause 6.5): of a PLP with spread P the one with number m is carried by the frames m
-- P to m P + P - 1.
use Rattle.std.specs.Prelude.{ℕ, ◌-◌, ◌/◌, ◌%◌, ◌==◌, Bool}
use Rattle.plp_config.specs.Plps.{spread}
use Rattle.plp_config.specs.declared.config.Config.{Config}

-- the number of the one that a frame carries
abbrev pub interleaving_frame : Config → ℕ → ℕ → ℕ
interleaving_frame c plp frame = frame / spread c.plps plp

-- a frame is the first that carries it
abbrev pub is_first : Config → ℕ → ℕ → Bool
is_first c plp frame = frame % spread c.plps plp == 0

-- the first frame of the one that a frame carries
abbrev pub begin_of : Config → ℕ → ℕ → ℕ
begin_of c plp frame = frame - frame % spread c.plps plp
