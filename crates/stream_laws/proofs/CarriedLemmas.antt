-- What the packets of a frame of a run carry, each kind in its order.
use Rattle.std.proofs.Common.{◌≡◌, ℕ, ◌<◌, Bool, true, List, [], ◌∷◌, length, refl, ap, ◌∙◌}
use Rattle.std.specs.Prelude.{if◌then◌else◌}
use Rattle.std.specs.List.{list_all}
use Rattle.bb_frame.specs.Laws.{BitCounts}
use Rattle.plp_config.specs.Capacity.{IsPlan}
use Rattle.plp_config.specs.Laws.{FieldRange}
use Rattle.plp_config.specs.declared.config.Config.{Config}
use Rattle.t2mi_packet.specs.declared.packet.Packet.{Packet}
use Rattle.mode_adapt.specs.Blocks.{own_blocks, told_counts}
use Rattle.frame_groups.specs.Carried.{blocks_of, right_blocks, L1Parts, l1s_of, stamps_of}
use Rattle.frame_groups.specs.Tests.{begins_superframe, is_known}
use Rattle.frame_writer.specs.FramePackets.{stamp_of}
use Rattle.gateway_core.specs.Packets.{frame_bodies}
use Rattle.frame_writer.specs.Signalling.{pre_part, conf_part}
use Rattle.gateway_core.specs.Signalling.{dyn_part}
use Rattle.stream_laws.proofs.MadeLemmas.{made_has, all_bodies, made_parts, made_bodies}
use Rattle.stream_laws.proofs.BlockLemmas.{own_long}
use Rattle.stream_laws.proofs.FrameSignalLemmas.{l1_parts, frame_parts}

-- a frame of a run is one with this dynamic part
same_parts : (c : Config) (n : ℕ) (counts : List ℕ) → made_parts c (dyn_part c n counts) ≡ l1_parts c n counts
unfolding pre_part conf_part
same_parts c n counts = refl

same_bodies : (c : Config) (n : ℕ) (counts : List ℕ) (blocks : ℕ → List (List Bool))
    → frame_bodies c n counts blocks ≡ made_bodies c n (dyn_part c n counts) blocks
unfolding pre_part conf_part
same_bodies c n counts blocks = refl

-- Packets carry what frame n has.

pub record HasFrame (c : Config) (inputs : ℕ → List (List ℕ)) (n : ℕ) (packets : List Packet) : Type 0 where
  pub l1s : l1s_of packets ≡ frame_parts c inputs n ∷ []
  pub stamps : stamps_of packets ≡ (if begins_superframe c n then stamp_of c n ∷ [] else [])
  pub blocks : (plp : ℕ) → plp < length c.plps → blocks_of c plp packets ≡ own_blocks c inputs n plp
  pub right : (plp : ℕ) → plp < length c.plps → right_blocks c plp packets ≡ own_blocks c inputs n plp
  pub known : list_all (is_known c) packets ≡ true

pub has_frame : BitCounts → FieldRange → (c : Config) (inputs : ℕ → List (List ℕ)) (n : ℕ) (packets : List Packet)
    → IsPlan c
    → all_bodies packets ≡ frame_bodies c n (told_counts c inputs n) (own_blocks c inputs n)
    → HasFrame c inputs n packets
has_frame numbers law c inputs n packets plan carry =
    let counts : List ℕ = told_counts c inputs n in
    let made = made_has c n (dyn_part c n counts) (own_blocks c inputs n) plan (own_long numbers law c inputs n) packets
    (carry ∙ same_bodies c n counts (own_blocks c inputs n)) in
    record {
      l1s = made.l1s ∙ ap (λ (l1 : L1Parts). l1 ∷ []) (same_parts c n counts);
      stamps = made.stamps;
      blocks = made.blocks;
      right = made.right;
      known = made.known;
    }
