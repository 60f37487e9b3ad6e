-- The number of frames of a run.
use Rattle.std.specs.Prelude.{◌≡◌, ℕ, zero, suc, ◌+◌, ◌*◌, ◌%◌, ◌≤◌, max, length}
use Rattle.std.specs.Int.{div_ceil}
use Rattle.plp_config.specs.FirstFailure.{HoldsBelow}
use Rattle.plp_config.specs.SlotTime.{start, delay}
use Rattle.plp_config.specs.declared.config.Config.{Config}

-- the tick by which the delay has passed for all packets of the first PLPs, of each so many
unfoldable pub last_tick : Config → (ℕ → ℕ) → ℕ → ℕ
last_tick c packets zero = 0
last_tick c packets (suc plp) = max (last_tick c packets plp) (start c plp (packets plp) + delay c plp)

-- the frames of a run: whole superframes, up to that tick of all PLPs
unfoldable pub frame_count : Config → (ℕ → ℕ) → ℕ
frame_count c packets = div_ceil (last_tick c packets (length c.plps)) (c.frames * c.ticks) * c.frames

-- the delay has passed for all packets by the end of so many frames
abbrev pub IsEnough : Config → (ℕ → ℕ) → ℕ → Type 0
IsEnough c packets frames = HoldsBelow (λ plp. start c plp (packets plp) + delay c plp ≤ frames * c.ticks)
    (length c.plps)

-- the least number of whole superframes that is enough, in frames
pub record IsFrameCount (c : Config) (packets : ℕ → ℕ) (frames : ℕ) : Type 0 where
  pub superframes : frames % c.frames ≡ 0
  pub enough : IsEnough c packets frames
  pub least : (other : ℕ) → other % c.frames ≡ 0 → IsEnough c packets other → frames ≤ other
