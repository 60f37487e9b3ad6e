-- What is left of a frame, by a place in it.
use Rattle.std.specs.Prelude.{◌≡◌, ℕ, ◌+◌, ◌%◌, ◌==◌, ◌≤◌, List, [], ◌∷◌, ◌++◌, length, drop, slice_index_or}
use Rattle.plp_config.specs.Plps.{plp_at}
use Rattle.plp_config.specs.declared.config.Config.{Config}
use Rattle.plp_config.specs.declared.plp.TheConstants.{MOST_BLOCK_BYTES}
use Rattle.l1_signal.specs.declared.lengths.TheConstants.{MOST_CONF_BITS, MOST_DYN_BITS, PRE_BITS}
use Rattle.t2mi_packet.specs.declared.packet.Body.{Body}
use Rattle.frame_writer.specs.FirstPacket.{from_step}
use Rattle.frame_writer.specs.FramePackets.{l1_body}
use Rattle.frame_writer.specs.declared.step.FrameStep.TheVariants.{Over}
use Rattle.frame_writer.specs.Bodies.{block_bodies, list_bodies, pool_bodies}
use Rattle.frame_writer.specs.declared.frame.PoolFrame.{PoolFrame}
use Rattle.frame_writer.specs.declared.frame.PoolPlace.{PoolPlace}

-- the blocks of the first of these lists from a place on, and those of the others
abbrev pub first_left : Config → ℕ → ℕ → ℕ → List (List (List ℕ)) → List Body
first_left c frame_idx plp place [] = []
first_left c frame_idx plp place (blocks ∷ lists) =
    block_bodies frame_idx (plp_at c.plps plp).id (place == 0) (drop place blocks) ++ list_bodies c frame_idx
    (plp + 1) lists

-- the blocks of a PLP from a place on, and those of the PLPs behind it
abbrev pub blocks_left : Config → ℕ → ℕ → ℕ → List (List (List ℕ)) → List Body
blocks_left c frame_idx plp place lists = first_left c frame_idx plp place (drop plp lists)

abbrev pub left_of : Config → PoolPlace → PoolFrame → List Body
left_of c p f =
    from_step c p.number p.step (l1_body c p.number f.pre f.conf f.dynamic)
    (blocks_left c (p.number % c.frames) p.plp p.place f.blocks.now.lists)

-- all that a frame gives as frame n
abbrev pub bodies_of : Config → ℕ → PoolFrame → List Body
bodies_of c n f = pool_bodies c n f.pre f.conf f.dynamic f.blocks.now.lists

-- Its L1 signalling fits a packet, it has a list for each PLP, and no block is longer than one can be.
pub record CanBeSent (c : Config) (f : PoolFrame) : Type 0 where
  pub pre : length f.pre ≡ PRE_BITS
  pub conf : length f.conf ≤ MOST_CONF_BITS
  pub dynamic : length f.dynamic ≤ MOST_DYN_BITS
  pub plps : length f.blocks.now.lists ≡ length c.plps
  pub short : (list place : ℕ) → length (slice_index_or (slice_index_or f.blocks.now.lists list []) place [])
      ≤ MOST_BLOCK_BYTES

-- Nothing is left behind a place, whatever the frame is.
abbrev pub IsOver : PoolPlace → Type 0
IsOver p = p.step ≡ Over
