-- What is done in the phases of a run, and how much of it is left. No public clause cites this module.
use Rattle.std.specs.Prelude.{ℕ, ◌-◌, ◌+◌, ◌*◌, ◌^◌, min, Result, Ok, Err}
use Rattle.plp_config.specs.SlotTime.{slots_by}
use Rattle.plp_config.specs.declared.config.Config.{Config}
use Rattle.plp_config.specs.declared.moment.TheConstants.{MOST_FRAMES}
use Rattle.ts_packet.specs.declared.sizes.TheConstants.{SIZE}
use Rattle.common_plp.specs.Inputs.{place_of}
use Rattle.common_plp.specs.Sharing.{Sharing}
use Rattle.file_run.specs.declared.machine.Step.{Step}
use Rattle.file_run.specs.declared.machine.Step.TheVariants.{Read, Give, End}
use Rattle.gateway_run.specs.declared.stop.GatewayStop.{GatewayStop}
use Rattle.gateway_run.specs.declared.stop.GatewayStop.TheVariants.{Bad}
use Rattle.gateway_run.specs.declared.place.Place.{Place}
use Rattle.gateway_run.specs.declared.stop.GatewayRan.{GatewayRan}
use Rattle.gateway_run.specs.declared.place.Phase.{Phase}
use Rattle.gateway_run.specs.declared.place.Phase.TheVariants.{Wants, Begins, Gives, Rests, Done, Stopped}

-- Units are given.
abbrev pub IsGiving : Phase → Type 0
IsGiving Wants = ⊥
IsGiving Begins = ⊥
IsGiving Gives = Unit {0}
IsGiving Rests = Unit {0}
IsGiving Done = ⊥
IsGiving (Stopped why) = ⊥

-- where it stops at the packet of an input that is bad, the first one that a frame still wants of its PLP
abbrev pub bad_by : Config → ℕ → ℕ → ℕ → ℕ → Place
bad_by c plp input frames wants = record {
  input = 0;
  phase = Stopped
      (Bad input (slots_by c plp (frames * c.ticks) - wants));
}

-- how much may still be given, in frames to begin and in bytes
abbrev pub to_give : ℕ → ℕ → ℕ
to_give frames bytes = (MOST_FRAMES - frames) * 2 ^ 35 + 4 * bytes

-- Each giving makes it less.
abbrev pub left_by : ℕ → Phase → ℕ → ℕ
left_by bytes Wants frames = to_give frames bytes
left_by bytes Begins frames = to_give frames bytes + 2
left_by bytes Gives frames = to_give frames bytes + 3
left_by bytes Rests frames = to_give frames bytes + 1
left_by bytes Done frames = 0
left_by bytes (Stopped why) frames = 0

-- what is done next, by how many packets are wanted of the input that is looked at
abbrev pub step_by : ℕ → ℕ → Phase → Step
step_by wants input Wants = Read input SIZE (SIZE * min wants (2 ^ 30))
step_by wants input Begins = Give
step_by wants input Gives = Give
step_by wants input Rests = Give
step_by wants input Done = End
step_by wants input (Stopped why) = End

-- the frame whose packets are read, or were read last: behind the beginning of a frame the one that was begun
abbrev pub frame_read : Phase → ℕ → ℕ
frame_read Gives frames = frames - 1
frame_read phase frames = frames

-- no further than the frame wants that is read
abbrev pub reach_by : Sharing → Config → Phase → ℕ → ℕ → ℕ
reach_by w c phase frames input = SIZE * slots_by c (place_of w c input) (frame_read phase frames * c.ticks)

-- what comes of a run that came so far
abbrev pub ending_of : Phase → GatewayRan → Result GatewayRan GatewayStop
ending_of (Stopped why) ran = Err why
ending_of phase ran = Ok ran
