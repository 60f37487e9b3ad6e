-- Sinks with room. No public clause cites this module.
use Rattle.std.specs.Prelude.{◌≡◌, ℕ, ◌≤◌, Some}
use Rattle.bit_slice.specs.Sink.{State}

-- A sink has an end, and room for so many bits before it.
pub record HasRoom (s : State) (count : ℕ) : Type 0 where
  pub room : ℕ
  pub has : s.room ≡ Some room
  pub most : count ≤ room
