-- What the packets of a frame carry whose blocks wait in a pool (ETSI TS 102 773, clause 5).
use Rattle.std.specs.Prelude.{ℕ, ◌+◌, ◌%◌, Bool, true, false, List, [], ◌∷◌, ◌++◌}
use Rattle.terms.specs.Bits.{bits_of}
use Rattle.plp_config.specs.Plps.{plp_at}
use Rattle.plp_config.specs.declared.config.Config.{Config}
use Rattle.t2mi_packet.specs.declared.packet.Body.{Body}
use Rattle.t2mi_packet.specs.declared.packet.Body.TheVariants.{Block}
use Rattle.frame_writer.specs.FramePackets.{l1_body, with_stamp}

-- blocks of a PLP by its identifier, as bytes; intl_frame_start is 1 on the first one in the frame
abbrev pub block_bodies : ℕ → ℕ → Bool → List (List ℕ) → List Body
block_bodies frame_idx id first [] = []
block_bodies frame_idx id first (b ∷ blocks) = Block frame_idx id first (bits_of b) ∷ block_bodies frame_idx
    id false blocks

-- the blocks of lists, one for each PLP from one on
abbrev pub list_bodies : Config → ℕ → ℕ → List (List (List ℕ)) → List Body
list_bodies c frame_idx plp [] = []
list_bodies c frame_idx plp (blocks ∷ lists) =
    block_bodies frame_idx (plp_at c.plps plp).id true blocks ++ list_bodies c frame_idx (plp + 1) lists

-- what the packets of frame n carry, by its L1 signalling and the blocks of each PLP
abbrev pub pool_bodies : Config → ℕ → List Bool → List Bool → List Bool → List (List (List ℕ)) → List Body
pool_bodies c n pre conf dynamic lists =
    with_stamp c n (l1_body c n pre conf dynamic ∷ list_bodies c (n % c.frames) 0 lists)
