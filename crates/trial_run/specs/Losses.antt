-- The units that the second modulator of a trial does not read.
use Rattle.std.specs.Prelude.{ℕ, ◌/◌, ◌%◌, ◌==◌, ◌&&◌, ◌||◌, not, nat_lt, Bool, List, [], length, flat_map}
use Rattle.std.specs.Prelude.{if◌then◌else◌}
use Rattle.std.specs.List.{range_with_len}
use Rattle.t2mi_stream.specs.Units.{unit_at}
use Rattle.ts_packet.specs.declared.sizes.TheConstants.{SIZE}
use Rattle.trial_run.specs.Draws.{drawn, after}
use Rattle.trial_run.specs.declared.losses.TheConstants.{LOST_ONE_OF}

-- It reads a unit, of so many, by the draw for it: not unit 0, and of the second half none whose draw is 0 modulo 64.
abbrev pub is_kept : ℕ → ℕ → ℕ → Bool
is_kept units unit draw = not (unit == 0) && (nat_lt unit (units / 2) || not (draw % LOST_ONE_OF == 0))

-- the number of units of a stream
abbrev pub unit_count : List ℕ → ℕ
unit_count stream = length stream / SIZE

-- what it reads of a unit of a stream by the draw for it
abbrev pub kept_by : List ℕ → ℕ → ℕ → List ℕ
kept_by stream unit draw = if is_kept (unit_count stream) unit draw then unit_at stream unit else []

-- the same, if one draw is made for each unit, from a number on
abbrev pub kept_of : ℕ → List ℕ → ℕ → List ℕ
kept_of x stream unit = kept_by stream unit (drawn (after unit x))

-- of the first units, joined
unfoldable pub kept_of_first : ℕ → List ℕ → ℕ → List ℕ
kept_of_first x stream units = flat_map (kept_of x stream) (range_with_len 0 units)

-- the units that it reads, joined
abbrev pub kept_from : ℕ → List ℕ → List ℕ
kept_from x stream = kept_of_first x stream (unit_count stream)
