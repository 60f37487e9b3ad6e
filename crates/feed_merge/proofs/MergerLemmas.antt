-- A merger begins a frame.
use Rattle.std.proofs.Common.{◌≡◌, ℕ, List, [], ◌++◌, ◌%◌, refl, ap, sym, subst}
use Rattle.plp_config.specs.declared.config.Config.{Config}
use Rattle.t2mi_packet.specs.declared.packet.Body.{Body}
use Rattle.t2mi_stream.specs.PiperStandsFor.{PiperStandsFor, is_finished}
use Rattle.frame_writer.specs.Carried.{of_frame}
use Rattle.frame_writer.specs.FirstPacket.{from_step}
use Rattle.frame_writer.specs.Flowing.{Flows, rest_of}
use Rattle.frame_writer.specs.FramePackets.{l1_body}
use Rattle.frame_writer.specs.declared.flow.Outlet.{Outlet}
use Rattle.frame_writer.specs.declared.step.FrameStep.{FrameStep}
use Rattle.frame_writer.proofs.CarriedLemmas.{carries_more}
use Rattle.frame_writer.specs.Left.{IsOver, left_of, blocks_left}
use Rattle.frame_writer.specs.declared.frame.PoolFrame.{PoolFrame}
use Rattle.frame_writer.specs.declared.frame.PoolPlace.{PoolPlace}

-- nothing is left of a place that is over
pub over_left : (c : Config) (p : PoolPlace) (f : PoolFrame) → IsOver p → left_of c p f ≡ []
over_left c p f over = ap (λ (step : FrameStep). from_step c p.number step (l1_body c p.number f.pre f.conf f.dynamic)
    (blocks_left c (p.number % c.frames) p.plp p.place f.blocks.now.lists)) over

-- a frame is begun
pub begun : (old new : Outlet) (c : Config) (was n m : ℕ) (bodies left now : List Body) (all : List (ℕ × Body))
    (given : ℕ)
    → Flows old c was [] all given → m ≡ n → left ≡ bodies
    → ((all : List (ℕ × Body)) (given : ℕ) → Flows old c m left all given → Flows new c m now all given)
    → (k : ℕ) → k ≡ m → Flows new c k now (all ++ of_frame n bodies) given
begun old new c was n m bodies left now all given h number is feeds k told =
    let more : Flows old c n bodies (all ++ of_frame n bodies) given =
    carries_more (PiperStandsFor old.piper) (is_finished old.piper) (rest_of old) old.packet_count c
    was n [] bodies all given refl h in
    let began : Flows old c m left (all ++ of_frame n bodies) given =
    subst (λ (j : ℕ). Flows old c j left (all ++ of_frame n bodies) given) (sym number)
    (subst (λ (l : List Body). Flows old c n l (all ++ of_frame n bodies) given) (sym is) more) in
    subst (λ (j : ℕ). Flows new c j now (all ++ of_frame n bodies) given) (sym told)
    (feeds (all ++ of_frame n bodies) given began)
