-- What a frame still has to give. No public clause cites this module.
use Rattle.std.specs.Prelude.{ℕ, nat_lt, Bool, true, List, length, if◌then◌else◌}
use Rattle.linked_pool.specs.Pool.{State}
use Rattle.plp_config.specs.declared.config.Config.{Config}
use Rattle.t2mi_packet.specs.declared.packet.Body.{Body}
use Rattle.frame_writer.specs.FramePackets.{l1_body}
use Rattle.gateway_core.specs.BlocksLeft.{blocks_left}
use Rattle.gateway_core.specs.Lists.{bits_in, own_in, later_in}
use Rattle.frame_writer.specs.FirstPacket.{first_step, from_step}
use Rattle.gateway_core.specs.Signalling.{dyn_part}
use Rattle.frame_writer.specs.declared.step.FrameStep.{FrameStep}
use Rattle.frame_writer.specs.declared.step.FrameStep.TheVariants.{Stamp, Signal, Blocks, Over}
use Rattle.gateway_core.specs.declared.frame.Frame.{Frame}
use Rattle.frame_writer.specs.declared.signalling.Signalling.{Signalling}

abbrev pub left : Config → Signalling → Frame → List Body
left c s f = from_step c f.number f.step (l1_body c f.number s.pre s.conf f.dynamic.bits)
    (blocks_left c f.number (own_in c f.number f.blocks) f.plp f.first)

-- what a frame has to give as it begins, by how many blocks each PLP has and by the blocks
abbrev pub all_of : Config → Signalling → ℕ → List ℕ → (ℕ → List (List Bool)) → List Body
all_of c s n counts blocks = from_step c n (first_step c n) (l1_body c n s.pre s.conf (dyn_part c n counts))
    (blocks_left c n blocks 0 true)

-- The blocks that the chains put already of interleaving frames that begin behind frame n. While it gives its packets
-- they are those of the lists before a place, which gave all theirs, and those of the PLPs of which none begins in it;
abbrev pub early_until : Config → ℕ → ℕ → State → ℕ → List (List Bool)
early_until c n plp pool j = if nat_lt j plp then bits_in pool j else later_in c n pool j

-- once nothing is left of it, all are.
abbrev pub early_at : Config → ℕ → FrameStep → ℕ → State → ℕ → List (List Bool)
early_at c n Stamp plp pool j = early_until c n plp pool j
early_at c n Signal plp pool j = early_until c n plp pool j
early_at c n Blocks plp pool j = early_until c n plp pool j
early_at c n Over plp pool j = bits_in pool j

abbrev pub early_of : Config → Frame → ℕ → List (List Bool)
early_of c f j = early_at c f.number f.step f.plp f.blocks j

-- of what stays as a frame gives its packets: its number, the lists and the chunks of its pool, and how many blocks
-- each PLP has in the interleaving frame that it carries
pub record Layout : Type 0 where
  pub number : ℕ
  pub lists : ℕ
  pub chunks : ℕ
  pub counts : List ℕ

abbrev pub layout_of : Frame → Layout
layout_of f = record {
  number = f.number;
  lists = length f.blocks.lists;
  chunks = f.blocks.opened;
  counts =
      f.counts.items;
}

-- all that stays: what the chains put already of later interleaving frames, and the layout
pub record Stays : Type 0 where
  pub early : ℕ → List (List Bool)
  pub layout : Layout

abbrev pub stays_of : Config → Frame → Stays
stays_of c f = record { early = early_of c f; layout = layout_of f }
