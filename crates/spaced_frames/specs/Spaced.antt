-- Frames one behind another, spaced (ETSI TS 102 773, clause 5).
use Rattle.std.specs.Prelude.{ℕ, zero, suc, ◌+◌, ◌-◌, ◌*◌, ◌/◌, List, [], ◌∷◌, ◌++◌, Option, Some, None, if◌then◌else◌}
use Rattle.plp_config.specs.declared.config.Config.{Config}
use Rattle.t2mi_packet.specs.declared.packet.Body.{Body}
use Rattle.t2mi_packet.specs.declared.packet.Body.TheVariants.{Timestamp}
use Rattle.frame_writer.specs.Carried.{of_frame}
use Rattle.frame_writer.specs.FramePackets.{stamp_of}
use Rattle.spaced_frames.specs.declared.spacer.Spacer.{Spacer}
use Rattle.spaced_frames.specs.declared.spacer.TheConstants.{FARTHEST}

-- a frame: its number, and what its packets carry
pub record SentFrame : Type 0 where
  pub number : ℕ
  pub bodies : List Body

-- the first frame of a superframe
abbrev pub first_frame : Config → ℕ → ℕ
first_frame c superframe = superframe * c.frames

-- a superframe of a timestamp alone
abbrev pub spacer : Config → ℕ → List (ℕ × Body)
spacer c superframe = of_frame (first_frame c superframe) (Timestamp (stamp_of c (first_frame c superframe)) ∷ [])

-- so many of them, each 14 superframes behind the one before
abbrev pub spacers_behind : Config → ℕ → ℕ → List (ℕ × Body)
spacers_behind c superframe zero = []
spacers_behind c superframe (suc count) = spacer c (superframe + FARTHEST) ++ spacers_behind c (superframe + FARTHEST)
    count

-- how many there are between two superframes: none of these is further behind the one before
abbrev pub spacers_between : ℕ → ℕ → ℕ
spacers_between m n = (n - m - 1) / FARTHEST

-- those between two frames
abbrev pub spacers : Config → Option ℕ → ℕ → List (ℕ × Body)
spacers c None n = []
spacers c (Some m) n = spacers_behind c (m / c.frames) (spacers_between (m / c.frames) (n / c.frames))

-- what the packets of frames carry behind a frame, or behind none, each with the number of its frame
abbrev pub spaced_behind : Config → Option ℕ → List SentFrame → List (ℕ × Body)
spaced_behind c last [] = []
spaced_behind c last (x ∷ frames) =
    spacers c last x.number ++ (of_frame x.number x.bodies ++ spaced_behind c (Some x.number) frames)

unfoldable pub spaced : Config → List SentFrame → List (ℕ × Body)
spaced c frames = spaced_behind c None frames

-- the number of the last frame
abbrev pub last_behind : Option ℕ → List SentFrame → Option ℕ
last_behind last [] = last
last_behind last (x ∷ frames) = last_behind (Some x.number) frames

-- what is left of a timestamp
abbrev pub spacer_left : Config → Spacer → List Body
spacer_left c s = if s.over then [] else Timestamp (stamp_of c s.number) ∷ []
