-- The T2-MI packets of a run (ETSI TS 102 773, clause 5).
use Rattle.std.specs.Prelude.{ℕ, ◌-◌, ◌%◌, Bool, true, false, List, [], ◌∷◌, length, map}
use Rattle.std.specs.List.{flat_map, range_with_len}
use Rattle.plp_config.specs.Plps.{plp_at}
use Rattle.plp_config.specs.RunLength.{frame_count}
use Rattle.plp_config.specs.declared.config.Config.{Config}
use Rattle.mode_adapt.specs.Blocks.{own_blocks, told_counts}
use Rattle.t2mi_packet.specs.declared.packet.Body.{Body}
use Rattle.t2mi_packet.specs.declared.packet.Body.TheVariants.{Block}
use Rattle.frame_writer.specs.FramePackets.{l1_body, with_stamp, packets_from}
use Rattle.frame_writer.specs.Signalling.{pre_part, conf_part}
use Rattle.gateway_core.specs.Signalling.{dyn_part}

-- blocks of a PLP by its identifier; intl_frame_start is 1 on the first one in the frame
abbrev pub block_bodies : ℕ → ℕ → Bool → List (List Bool) → List Body
block_bodies frame_idx id first [] = []
block_bodies frame_idx id first (b ∷ blocks) = Block frame_idx id first b ∷ block_bodies frame_idx id false blocks

-- the blocks of the PLPs from a place on, in configuration order, of those that each PLP sends in frame n
abbrev pub plp_bodies : Config → ℕ → (ℕ → List (List Bool)) → ℕ → List Body
plp_bodies c n blocks from = flat_map (λ plp. block_bodies (n % c.frames) (plp_at c.plps plp).id true (blocks plp))
    (range_with_len from (length c.plps - from))

-- what the packets of frame n carry: a timestamp in the first frame of a superframe, then the L1 signalling, which
-- tells these numbers of blocks, then the blocks that are sent in it, PLP by PLP
abbrev pub frame_bodies : Config → ℕ → List ℕ → (ℕ → List (List Bool)) → List Body
frame_bodies c n counts blocks =
    with_stamp c n (l1_body c n (pre_part c) (conf_part c) (dyn_part c n counts) ∷ plp_bodies c n blocks 0)

-- what the packets of the frames below n carry, each with the number of its frame
abbrev pub bodies_before : Config → (ℕ → List (List ℕ)) → ℕ → List (ℕ × Body)
bodies_before c inputs n =
    flat_map (λ m. map (λ body. (m, body)) (frame_bodies c m (told_counts c inputs m) (own_blocks c inputs m)))
    (range_with_len 0 n)

-- the packets of the frames below n
unfoldable pub front_packets : Config → (ℕ → List (List ℕ)) → ℕ → List (List ℕ)
front_packets c inputs n = packets_from c 0 (bodies_before c inputs n)

-- the packets of a run: those of its frames
abbrev pub packets_of : Config → (ℕ → List (List ℕ)) → List (List ℕ)
packets_of c inputs = front_packets c inputs (frame_count c (λ plp. length (inputs plp)))
