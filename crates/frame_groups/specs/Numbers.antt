-- The numbers of frames. superframe_idx counts modulo 16 (ETSI TS 102 773, clause 5.1).
use Rattle.std.specs.Prelude.{◌≡◌, ℕ, zero, suc, ◌+◌, ◌-◌, ◌*◌, ◌/◌, ◌%◌, ◌<◌, Bool, false, if◌then◌else◌}
use Rattle.frame_groups.specs.Groups.{is_same}
use Rattle.frame_groups.specs.declared.key.Key.{Key}

-- how many superframes there are until superframe_idx comes again
abbrev pub superframe_period : ℕ
superframe_period = 16

-- the key of a frame, in superframes of so many frames
abbrev pub frame_key : ℕ → ℕ → Key
frame_key frames n = record { superframe = (n / frames) % superframe_period; frame = n % frames }

-- the first number from one on that passes, of so many; else the number behind them
abbrev pub first_from : (ℕ → Bool) → ℕ → ℕ → ℕ
first_from passes zero n = n
first_from passes (suc steps) n = if passes n then n else first_from passes steps (n + 1)

-- the least number above another whose frame has a key
unfoldable pub next_number : ℕ → ℕ → Key → ℕ
next_number frames n k = first_from (λ i. is_same (frame_key frames i) k) (superframe_period * frames) (n + 1)

-- Frames can have the key.
pub record IsKey (frames : ℕ) (k : Key) : Type 0 where
  pub superframe : k.superframe < superframe_period
  pub frame : k.frame < frames

-- the same number by arithmetic
abbrev pub next_by : ℕ → ℕ → Key → ℕ
next_by frames n k =
    n + 1 + (k.superframe * frames + k.frame + superframe_period * frames * (n + 1) - (n + 1)) %
    (superframe_period * frames)

-- A number is the least above another whose frame has a key.
pub record IsNext (frames n : ℕ) (k : Key) (next : ℕ) : Type 0 where
  pub above : n < next
  pub has : frame_key frames next ≡ k
  pub least : (i : ℕ) → n < i → i < next → is_same (frame_key frames i) k ≡ false
