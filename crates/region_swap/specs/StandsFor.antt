-- What a swapper stands for.
use Rattle.std.specs.Prelude.{◌≡◌, ◌≢◌, ◌≤◌, ℕ, ◌+◌, ◌-◌, ◌*◌, Bool, true, false, List, [], ◌++◌, drop, length}
use Rattle.std.specs.Prelude.{slice_set, if◌then◌else◌}
use Rattle.plp_config.specs.SlotTime.{slots_by}
use Rattle.plp_config.specs.declared.config.Config.{Config}
use Rattle.ts_packet.specs.TsFile.{joined}
use Rattle.ts_packet.specs.declared.sizes.TheConstants.{SIZE}
use Rattle.t2mi_packet.specs.declared.packet.Body.{Body}
use Rattle.t2mi_stream.specs.Complete.{complete_units}
use Rattle.t2mi_stream.specs.Pipe.{pipe}
use Rattle.terms.specs.Lists.{IsPrefix}
use Rattle.frame_writer.specs.Flowing.{Flows, bytes_bound, gives_unit}
use Rattle.frame_writer.specs.declared.flow.Flow.{Flow}
use Rattle.frame_writer.specs.Signalling.{pre_part, conf_part}
use Rattle.frame_writer.specs.declared.frame.PoolFrame.{PoolFrame}
use Rattle.stream_laws.specs.Remade.{NumberedView, remade_bodies, remade_packets}
use Rattle.gateway_core.specs.InputSoFar.{Told, Continues}
use Rattle.gateway_core.specs.IsFed as supply
use Rattle.region_swap.specs.Left.{left_by, own_list, number_of}
use Rattle.region_swap.specs.RegionFed.{RegionStandsFor, region_told}
use Rattle.region_swap.specs.Swapped.{swapped}
use Rattle.region_swap.specs.declared.place.SwapPlace.{SwapPlace}
use Rattle.region_swap.specs.declared.region.Region.{Region}
use Rattle.region_swap.specs.declared.swapper.Swapper.{Swapper}

-- what is told before the first frame
abbrev pub none_told : Told
none_told = record { packets = []; ended = false; frame = 0 }

-- how many packets the frame under way wants: those of the slots that are over when it begins, without those offered;
-- none from an input that ended
abbrev pub wants_by : Config → ℕ → Told → ℕ
wants_by c plp t = if t.ended then 0 else slots_by c plp (t.frame * c.ticks) - length t.packets

-- what is left of the frame under way, by its parts of L1 and its blocks
abbrev pub left_with : Swapper → List Bool → List Bool → List (List (List ℕ)) → List Body
left_with s pre conf lists =
    left_by s.plan.now s.place pre conf s.dynamic.bits
    (slice_set lists s.list (own_list s.region.sends s.region.blocks s.list))

abbrev pub left_in : Swapper → PoolFrame → List Body
left_in s f = left_with s f.pre f.conf f.blocks.now.lists

-- the same of a frame of the network by its blocks
abbrev pub left_for : Swapper → List (List (List ℕ)) → List Body
left_for s lists = left_with s (pre_part s.plan.now) (conf_part s.plan.now) lists

-- These packets were offered; these frames were begun, by the records that they make, and of the last one these bodies
-- are left; and for every input that continues what was offered, the packets of the frames with the PLP replaced have
-- come so far, and so many units were given.
pub record Swaps (c : Config) (plp : ℕ) (region : Region) (flow : Flow) (place : SwapPlace) (number : ℕ)
    (begun : Bool) (t : Told)
    (left : List Body) (frames : List NumberedView) (given : ℕ) : Type 0 where
  pub supplied : RegionStandsFor region c plp (region_told begun t)
  pub number_is : number ≡ t.frame
  pub offered : begun ≡ true → wants_by c plp t ≡ 0
  pub flows : (input : List (List ℕ)) → Continues t input
      → Flows flow.outlet c (number_of place) left (remade_bodies c (swapped c plp input frames)) given

abbrev pub IsAsTold : Swapper → Told → List Body → List NumberedView → ℕ → Type 0
IsAsTold s t left frames given =
    Swaps s.plan.now s.list s.region s.flow s.place s.number s.begun t left frames given

-- Its configuration and the place of the PLP; the packets offered, whether they ended and the frame under way; what is
-- left of the last frame that was begun; the frames begun, in turn; and how many units it gave.
unfoldable pub SwapperStandsFor : Swapper → Config → ℕ → Told → List Body → List NumberedView → ℕ → Type 0
SwapperStandsFor s c plp t left frames given = (s.plan.now ≡ c) × (s.list ≡ plp) × IsAsTold s t left frames given

-- how many packets the frame under way still wants; none once it was begun
abbrev pub wants_of : Swapper → ℕ
wants_of s = if s.begun then 0 else supply.wanted s.region.input

-- the number of the frame under way
abbrev pub frame_of : Swapper → ℕ
frame_of s = s.number

-- A unit of the frames begun is complete, or no more frames come and a byte is left.
abbrev pub has_unit : Swapper → Bool
has_unit s = gives_unit s.flow.outlet

-- All packets of the frames begun were fed.
abbrev pub is_fed : Swapper → Bool
is_fed s = s.flow.dry

-- what a caller sees of it beside its wants: its network, the place of the PLP, the frame under way and whether it was
-- begun, and whether no more frames come
pub record Status : Type 0 where
  pub network : Config
  pub plp : ℕ
  pub frame : ℕ
  pub begun : Bool
  pub finished : Bool

abbrev pub status_of : Swapper → Status
status_of s = record {
  network = s.plan.now;
  plp = s.list;
  frame = s.number;
  begun = s.begun;
  finished =
      s.flow.finished;
}

-- that of one that was opened
abbrev pub new_status : Config → ℕ → Status
new_status c plp = record { network = c; plp = plp; frame = 0; begun = false; finished = false }

-- no fewer than the bytes of the frames begun that were not yet given, if these bodies are left
abbrev pub bytes_left : Swapper → List Body → ℕ
bytes_left s left = bytes_bound s.flow.outlet left

-- The bytes are units of the frames begun, of which the last is this one.
pub record GivesUnits (old new : Swapper) (frame : PoolFrame) (full : Bool) (bytes : List ℕ) : Type 0 where
  pub units : List (List ℕ)
  pub bytes_are : bytes ≡ joined units
  pub size : length bytes ≡ SIZE * length units
  pub stands : (c : Config) (plp : ℕ) (t : Told) (frames : List NumberedView) (given : ℕ)
      → SwapperStandsFor old c plp t (left_in old frame) frames given
      → SwapperStandsFor new c plp t (left_in new frame) frames (given + length units)
  -- They are the next ones of all, whatever packets and frames follow; after the end none follows.
  pub next : (c : Config) (plp : ℕ) (t : Told) (frames : List NumberedView) (given : ℕ)
      → SwapperStandsFor old c plp t (left_in old frame) frames given → (input : List (List ℕ)) → Continues t input
      → (more : List (List ℕ)) → ((status_of old).finished ≡ true → more ≡ [])
      → IsPrefix units (drop given (pipe c.pid (remade_packets c (swapped c plp input frames) ++ more)))
  -- Before the end only complete ones are given;
  pub complete : (status_of old).finished ≡ false → units ≢ []
      → (c : Config) (plp : ℕ) (t : Told) (frames : List NumberedView) (given : ℕ)
      → SwapperStandsFor old c plp t (left_in old frame) frames given → (input : List (List ℕ)) → Continues t input
      → given + length units ≤ length (complete_units c.pid (remade_packets c (swapped c plp input frames)))
  -- one at least if the room ended, and else all, and nothing is left of the frame.
  pub some : full ≡ true → units ≢ []
  pub all : full ≡ false → (status_of old).finished ≡ false
      → (c : Config) (plp : ℕ) (t : Told) (frames : List NumberedView) (given : ℕ)
      → SwapperStandsFor old c plp t (left_in old frame) frames given → (input : List (List ℕ)) → Continues t input
      → given + length units ≡ length (complete_units c.pid (remade_packets c (swapped c plp input frames)))
  pub spent : full ≡ false → left_in new frame ≡ []
  pub less : bytes_left new (left_in new frame) + length units ≤ bytes_left old (left_in old frame)
