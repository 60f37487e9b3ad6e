-- A law of spaced frames.
use Rattle.std.specs.Prelude.{◌<◌, ◌≤◌, ℕ, ◌+◌, ◌/◌, List, [], ◌∷◌, length}
use Rattle.std.specs.List.{AllByRecursion}
use Rattle.plp_config.specs.declared.config.Config.{Config}
use Rattle.t2mi_packet.specs.declared.packet.Body.{Body}
use Rattle.spaced_frames.specs.Spaced.{SentFrame, spaced}
use Rattle.spaced_frames.specs.declared.spacer.TheConstants.{FARTHEST}

-- A packet is of the same frame as the one before or of a later one, and by no more than 14 superframes.
pub record IsNear (c : Config) (m n : ℕ) : Type 0 where
  pub order : m ≤ n
  pub superframes : n / c.frames ≤ m / c.frames + FARTHEST

abbrev pub AreNearFrom : Config → ℕ → List (ℕ × Body) → Type 0
AreNearFrom c m [] = Unit {0}
AreNearFrom c m (x ∷ packets) = IsNear c m x.0 × AreNearFrom c x.0 packets

abbrev pub AreNear : Config → List (ℕ × Body) → Type 0
AreNear c [] = Unit {0}
AreNear c (x ∷ packets) = AreNearFrom c x.0 packets

-- The numbers of frames rise.
abbrev pub RiseFrom : ℕ → List SentFrame → Type 0
RiseFrom m [] = Unit {0}
RiseFrom m (x ∷ frames) = (m < x.number) × RiseFrom x.number frames

abbrev pub Rise : List SentFrame → Type 0
Rise [] = Unit {0}
Rise (x ∷ frames) = RiseFrom x.number frames

-- So nobody who finds the superframe of a packet by superframe_idx, modulo 16, behind the packet before, loses count.
abbrev pub SpacedAreNear : Type 0
SpacedAreNear = (c : Config) (frames : List SentFrame) → 0 < c.frames → Rise frames
    → AllByRecursion (λ x. 0 < length x.bodies) frames → AreNear c (spaced c frames)
