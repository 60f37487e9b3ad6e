-- The phases of a run.
use Rattle.std.proofs.Common.{Option, Some, None, ◌≡◌, ◌≢◌, ◌⊎◌, ℕ, ◌<◌, ◌≤◌, refl, arith, inl, inr}
use Rattle.ts_packet.specs.declared.sizes.TheConstants.{SIZE}
use Rattle.file_run.specs.Steps.{FallsShort}
use Rattle.plp_config.specs.declared.moment.TheConstants.{MOST_FRAMES}
use Rattle.gateway_run.specs.Phases.{IsGiving, step_by, frame_read}
use Rattle.gateway_run.specs.Ready.{place_by}
use Rattle.gateway_run.specs.declared.place.Phase.{Phase}
use Rattle.gateway_run.specs.declared.place.Phase.TheVariants.{Wants, Begins, Gives, Rests, Done, Stopped}

pub giving_cases : (phase : Phase) → IsGiving phase → (phase ≡ Gives) ⊎ (phase ≡ Rests)
giving_cases Wants i = absurd i
giving_cases Begins i = absurd i
giving_cases Gives i = inl refl
giving_cases Rests i = inr refl
giving_cases Done i = absurd i
giving_cases (Stopped why) i = absurd i

-- ---- what comes next

pub falls_short_at : (wants at : ℕ) (phase : Phase) (input count : ℕ) → FallsShort (step_by wants at phase) input count
    → (phase ≡ Wants) × (at ≡ input) × (count < SIZE)
falls_short_at wants at Wants input count r = (refl, r.0, r.1)
falls_short_at wants at Begins input count r = absurd r
falls_short_at wants at Gives input count r = absurd r
falls_short_at wants at Rests input count r = absurd r
falls_short_at wants at Done input count r = absurd r
falls_short_at wants at (Stopped why) input count r = absurd r

-- ---- the frame that is read

-- behind a look
pub looked_read : (frames : ℕ) (asked : Option ℕ) → frame_read (place_by asked).phase frames ≡ frames
looked_read frames None = refl
looked_read frames (Some input) = refl

pub read_early : (p : Phase) (frames : ℕ) → frames ≤ MOST_FRAMES → frame_read p frames ≤ MOST_FRAMES
read_early Wants frames le = le
read_early Begins frames le = le
read_early Gives frames le = omega (arith, le)
read_early Rests frames le = le
read_early Done frames le = le
read_early (Stopped why) frames le = le

pub read_few : (p : Phase) (frames : ℕ) → frame_read p frames ≤ frames
read_few Wants frames = omega arith
read_few Begins frames = omega arith
read_few Gives frames = omega arith
read_few Rests frames = omega arith
read_few Done frames = omega arith
read_few (Stopped why) frames = omega arith

pub gives_at : (phase : Phase) → IsGiving phase → phase ≢ Rests → phase ≡ Gives
gives_at phase i apart = elim (giving_cases phase i) [ inl gives ↦ gives | inr rests ↦ absurd (apart rests) ]
