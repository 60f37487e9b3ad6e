-- What a sender stands for.
use Rattle.std.specs.Prelude.{◌≡◌, ◌≢◌, ℕ, ◌+◌, ◌*◌, ◌/◌, ◌%◌, ◌^◌, ◌≤◌, Bool, true, false, List, [], ◌++◌, length}
use Rattle.std.specs.Prelude.{Some, None}
use Rattle.plp_config.specs.declared.config.Config.{Config}
use Rattle.ts_packet.specs.TsFile.{joined}
use Rattle.t2mi_packet.specs.declared.packet.Body.{Body}
use Rattle.t2mi_stream.specs.Complete.{complete_units}
use Rattle.t2mi_stream.specs.Pipe.{pipe}
use Rattle.frame_writer.specs.Carried.{of_frame}
use Rattle.frame_writer.specs.FirstPacket.{from_step}
use Rattle.frame_writer.specs.Flowing.{Flows, gives_unit, bytes_bound, packet_bound}
use Rattle.frame_writer.specs.FramePackets.{l1_body, packets_from}
use Rattle.frame_writer.specs.declared.flow.Flow.{Flow}
use Rattle.frame_writer.specs.Bodies.{pool_bodies}
use Rattle.frame_writer.specs.Left.{blocks_left}
use Rattle.frame_writer.specs.declared.frame.PoolFrame.{PoolFrame}
use Rattle.frame_writer.specs.declared.frame.PoolPlace.{PoolPlace}
use Rattle.spaced_frames.specs.Spaced.{SentFrame, spacer_left, spacers_behind, spacers_between, spaced, last_behind}
use Rattle.spaced_frames.specs.declared.sender.Sender.{Sender}
use Rattle.spaced_frames.specs.declared.stage.Stage.{Stage}
use Rattle.spaced_frames.specs.declared.stage.Stage.TheVariants as at

-- what a frame has, whoever lends it
pub record Content : Type 0 where
  pub pre : List Bool
  pub conf : List Bool
  pub dynamic : List Bool
  pub lists : List (List (List ℕ))

abbrev pub content_of : PoolFrame → Content
content_of f = record { pre = f.pre; conf = f.conf; dynamic = f.dynamic; lists = f.blocks.now.lists }

-- what its packets carry as frame n, and what is left of them from a place on
abbrev pub bodies_as : Config → ℕ → Content → List Body
bodies_as c n x = pool_bodies c n x.pre x.conf x.dynamic x.lists

abbrev pub left_from : Config → PoolPlace → Content → List Body
left_from c p x =
    from_step c p.number p.step (l1_body c p.number x.pre x.conf x.dynamic)
    (blocks_left c (p.number % c.frames) p.plp p.place x.lists)

-- what is left of what is under way, and what comes behind it before the next frame
abbrev pub left_in : Config → Stage → Sender → Content → List Body
left_in c at.Idle s x = []
left_in c at.Spaces s x = spacer_left c s.spacer
left_in c at.Sends s x = left_from c s.place x

abbrev pub number_in : Stage → Sender → ℕ
number_in at.Idle s = s.place.number
number_in at.Spaces s = s.spacer.number
number_in at.Sends s = s.place.number

abbrev pub later_in : Config → Stage → Sender → Content → List (ℕ × Body)
later_in c at.Idle s x = []
later_in c at.Spaces s x =
    spacers_behind c s.superframe (spacers_between s.superframe (s.number / c.frames)) ++ of_frame s.number
    (bodies_as c s.number x)
later_in c at.Sends s x = []

-- The one is the front of the other.
abbrev pub Begins : List (List ℕ) → List (List ℕ) → Type 0
Begins xs ys = (more : List (List ℕ)) × (ys ≡ xs ++ more)

-- Units went out: of packets that carry these bodies, of which these are left. They are the first of all, whatever
-- packets follow, and before the end complete.
pub record Sends (c : Config) (flow : Flow) (n : ℕ) (left : List Body) (all : List (ℕ × Body)) (gave : List ℕ) :
    Type 0 where
  pub units : List (List ℕ)
  pub gave_is : gave ≡ joined units
  pub flows : Flows flow.outlet c n left all (length units)
  pub front : (more : List (List ℕ)) → (flow.finished ≡ true → more ≡ [])
      → Begins units (pipe c.pid (packets_from c 0 all ++ more))
  pub whole : flow.finished ≡ false → length units ≤ length (complete_units c.pid (packets_from c 0 all))

-- These frames were begun, spaced, the last one with this content, and these bytes went out.
pub record SenderStandsFor (c : Config) (s : Sender) (x : Content) (frames : List SentFrame) (gave : List ℕ) :
    Type 0 where
  pub plan : s.plan.now ≡ c
  pub all : List (ℕ × Body)
  pub total : spaced c frames ≡ all ++ later_in c s.stage s x
  pub sends : Sends c s.flow (number_in s.stage s) (left_in c s.stage s x) all gave
  pub last : s.stage ≡ at.Idle → s.last ≡ last_behind None frames
  pub number : s.stage ≢ at.Idle → last_behind None frames ≡ Some s.number

-- No frame is under way.
abbrev pub is_idle : Sender → Type 0
is_idle s = s.stage ≡ at.Idle

-- A unit of the frames begun is complete, or no more frames come and a byte is left; no more frames come.
abbrev pub has_unit : Sender → Bool
has_unit s = gives_unit s.flow.outlet

abbrev pub has_finished : Sender → Bool
has_finished s = s.flow.finished

abbrev pub config_of : Sender → Config
config_of s = s.plan.now

-- the frame of a number with some content
abbrev pub sent_as : Config → ℕ → Content → SentFrame
sent_as c n x = record { number = n; bodies = bodies_as c n x }

-- These were begun, behind all that was before, and are under way.
abbrev pub Begun : Sender → Sender → List (ℕ × Body) → Content → Type 0
Begun old new next x = (n : ℕ) (all : List (ℕ × Body)) (gave : List ℕ) → Sends (config_of old) old.flow n [] all gave
    → Sends (config_of old) new.flow (number_in new.stage new) (left_in (config_of old) new.stage new x)
    (all ++ next) gave

-- Of spacers and a frame behind them the first were begun, and the others come later.
pub record Continues (c : Config) (new : Sender) (x : Content) (next all : List (ℕ × Body)) (gave : List ℕ) :
    Type 0 where
  pub begun : List (ℕ × Body)
  pub total : all ++ next ≡ begun ++ later_in c new.stage new x
  pub sends : Sends c new.flow (number_in new.stage new) (left_in c new.stage new x) begun gave

abbrev pub GoesOn : Sender → Sender → List (ℕ × Body) → ℕ → Content → Type 0
GoesOn old new between number x = (n : ℕ) (all : List (ℕ × Body)) (gave : List ℕ)
    → Sends (config_of old) old.flow n [] all gave
    → Continues (config_of old) new x (between ++ of_frame number (bodies_as (config_of old) number x)) all gave

-- What went out are the units of these frames: the complete ones, or all.
abbrev pub HasGiven : (ℕ → List (List ℕ) → List (List ℕ)) → Config → List SentFrame → List ℕ → Type 0
HasGiven units c frames gave = gave ≡ joined (units c.pid (packets_from c 0 (spaced c frames)))

-- no fewer than the units that are left behind the end
abbrev pub rest_of : Sender → ℕ
rest_of s = bytes_bound s.flow.outlet []

-- how many frames and spacers can still be under way before the next frame, and one more
abbrev pub stages_in : Config → Stage → Sender → ℕ
stages_in c at.Idle s = 0
stages_in c at.Spaces s = 2 + spacers_between s.superframe (s.number / c.frames)
stages_in c at.Sends s = 1

-- no fewer than the times that units can be asked for before the next frame
abbrev pub left_of : Config → Sender → Content → ℕ
left_of c s x = bytes_bound s.flow.outlet (left_in c s.stage s x) + packet_bound * length (later_in c s.stage s x)
    + stages_in c s.stage s

-- more than a frame that was begun can have left, and what is left behind the end
abbrev pub most_left : ℕ
most_left = 2 ^ 64
