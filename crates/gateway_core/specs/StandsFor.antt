-- What a gateway stands for.
use Rattle.std.specs.Prelude.{◌≡◌, ◌<◌, ℕ, ◌-◌, ◌*◌, if◌then◌else◌, Bool, true, false, List, length, map, slice_index}
use Rattle.plp_config.specs.RunLength.{frame_count}
use Rattle.plp_config.specs.SlotTime.{slots_by}
use Rattle.plp_config.specs.declared.config.Config.{Config}
use Rattle.t2mi_packet.specs.declared.packet.Body.{Body}
use Rattle.gateway_core.specs.Events.{Event, offered, has_ended, begun, given, finished}
use Rattle.frame_writer.specs.Flowing.{Flows, bytes_bound, gives_unit}
use Rattle.gateway_core.specs.InputsStandFor.{AllFed, AllContinue, CountsStay}
use Rattle.gateway_core.specs.IsFed.{wanted}
use Rattle.gateway_core.specs.Left.{left, early_of}
use Rattle.gateway_core.specs.Packets.{bodies_before}
use Rattle.frame_writer.specs.Signalling.{pre_part, conf_part}
use Rattle.frame_writer.specs.declared.flow.Flow.{Flow}
use Rattle.gateway_core.specs.declared.gateway.Gateway.{Gateway}
use Rattle.gateway_core.specs.declared.input.Input.{Input}
use Rattle.frame_writer.specs.declared.signalling.Signalling.{Signalling}

-- Its inputs were fed, and their chains put these blocks already; so many frames were begun, and for all inputs that
-- continue what was offered the packets of those frames have come so far.
pub record Holds (inputs : List Input) (early : ℕ → List (List Bool)) (s : Signalling) (frames : ℕ) (flow : Flow)
    (n : ℕ)
    (left : List Body) (c : Config) (events : List Event) : Type 0 where
  pub fed : AllFed inputs early c events
  pub pre : s.pre ≡ pre_part c
  pub conf : s.conf ≡ conf_part c
  pub frames_are : frames ≡ begun events
  pub last : flow.finished ≡ finished events
  pub flows : (all : ℕ → List (List ℕ)) → AllContinue c events all
      → Flows flow.outlet c n left (bodies_before c all frames)
      (given events)

-- its configuration, and what was done to it, in turn; it tells the numbers of blocks that stay
unfoldable pub GatewayStandsFor : Gateway → Config → List Event → Type 0
GatewayStandsFor g c events =
    (g.plan.now ≡ c) × Holds g.inputs.items (early_of g.plan.now g.frame) g.signalling g.frames g.flow g.frame.number
    (left g.plan.now g.signalling g.frame) c events × CountsStay c events g.frames g.frame.counts.items

-- the number of PLPs
abbrev pub plps_of : Gateway → ℕ
plps_of g = length g.inputs.items

-- how many packets the next frame still wants from the input of a PLP
abbrev pub wants_of : Gateway → ℕ → ℕ
wants_of g plp = slice_index (map wanted g.inputs.items) plp

-- the number of the next frame
abbrev pub frame_of : Gateway → ℕ
frame_of g = g.frames

-- A unit of the frames begun is complete, or no more frames come and a byte is left.
abbrev pub has_unit : Gateway → Bool
has_unit g = gives_unit g.flow.outlet

-- no fewer than the bytes of the frames begun that were not yet given: each unit that is given makes it less
abbrev pub bytes_left : Gateway → ℕ
bytes_left g = bytes_bound g.flow.outlet (left g.plan.now g.signalling g.frame)

-- No more frames come.
abbrev pub has_finished : Gateway → Bool
has_finished g = g.flow.finished

-- what a caller sees of a gateway beside its wants
pub record Status : Type 0 where
  pub plps : ℕ
  pub frame : ℕ
  pub unit : Bool
  pub finished : Bool
  pub left : ℕ

abbrev pub status_of : Gateway → Status
status_of g = record {
  plps = plps_of g;
  frame = frame_of g;
  unit = has_unit g;
  finished = has_finished
      g;
  left = bytes_left g;
}

-- that of one that was opened for so many PLPs
abbrev pub new_status : ℕ → Status
new_status plps = record { plps = plps; frame = 0; unit = false; finished = false; left = 0 }

-- All inputs ended, and as many frames were begun as their packets need.
pub record IsLast (c : Config) (events : List Event) : Type 0 where
  pub ended : (plp : ℕ) → plp < length c.plps → has_ended plp events ≡ true
  pub frames : begun events ≡ frame_count c (λ plp. length (offered plp events))

-- how many packets the next frame wants from the input of a PLP: those of the slots that are over when it begins,
-- without those offered; none from one that ended
abbrev pub wants_by : Config → List Event → ℕ → ℕ
wants_by c events plp = if has_ended plp events then 0 else slots_by c plp (begun events * c.ticks) -
    length (offered plp events)
