-- What the tests need of packets, packet by packet: two numbers for each PLP, one L1-current, two timestamps and two
-- answers.
use Rattle.std.specs.Prelude.{ℕ, ◌+◌, ◌*◌, ◌==◌, ◌&&◌, ◌||◌, not, nat_le, is_some, Bool, true, false, List, [], ◌∷◌}
use Rattle.std.specs.Prelude.{length, map}
use Rattle.std.specs.Prelude.{sum_by, slice_get, slice_index, Option, Some, None, option_map, if◌then◌else◌}
use Rattle.std.specs.List.{find, list_all, range_with_len}
use Rattle.std.specs.Option.{option_or, option_and_then, option_map_or}
use Rattle.plp_config.specs.Places.{places}
use Rattle.plp_config.specs.Capacity.{block_bytes}
use Rattle.plp_config.specs.declared.config.Config.{Config}
use Rattle.linked_pool.specs.Pool.{chunks_for}
use Rattle.scheduler.specs.Shape.{FrameShape}
use Rattle.t2mi_packet.specs.declared.packet.Packet.{Packet}
use Rattle.t2mi_packet.specs.declared.packet.Stamp.{Stamp}
use Rattle.frame_groups.specs.Modulated.{Numbered}
use Rattle.frame_groups.specs.declared.cause.MuteCause.{MuteCause}
use Rattle.frame_groups.specs.declared.cause.MuteCause.TheVariants.{PacketMissing, L1Refused, MapRefused, PoolFull}
use Rattle.frame_groups.specs.Carried.{blocks_of, right_blocks, L1Parts, l1s_of, stamps_of}
use Rattle.frame_groups.specs.Tests.{unless, begins_superframe, pool_chunks, capped, same_parts, parts_agree, l1_shape}
use Rattle.frame_groups.specs.Tests.{stamp_agrees, disagrees, is_known, has_map, begun_test, first_failure, has_count}

pub record Tally : Type 0 where
  pub right : List ℕ  -- of each PLP, its blocks that have its length
  pub blocks : List ℕ  -- of each PLP, all its blocks
  pub l1 : Option L1Parts  -- the first L1-current
  pub alike : Bool  -- the others are the same
  pub stamp : Option Stamp  -- the first timestamp
  pub unlike : Option Stamp  -- the first one that tells another bandwidth or moment
  pub known : Bool  -- each block is one of a PLP, with its length

-- all are the same as the first
abbrev pub all_alike : List L1Parts → Bool
all_alike [] = true
all_alike (l1 ∷ more) = list_all (same_parts l1) more

-- a timestamp tells another bandwidth or moment than another
abbrev pub is_unlike : Stamp → Stamp → Bool
is_unlike s t = not ((t.bw == s.bw) && (t.seconds == s.seconds) && (t.subseconds == s.subseconds))

-- the first timestamp that tells another than the first of all
abbrev pub first_unlike : List Stamp → Option Stamp
first_unlike [] = None
first_unlike (s ∷ more) = find (is_unlike s) more

abbrev pub tally : Config → List Packet → Tally
tally c packets = record {
  right = map (λ plp. length (right_blocks c plp packets)) (places c);
  blocks = map (λ plp. length (blocks_of c plp packets)) (places c);
  l1 = slice_get (l1s_of packets) 0;
  alike = all_alike (l1s_of packets);
  stamp = slice_get (stamps_of packets) 0;
  unlike = first_unlike (stamps_of packets);
  known = list_all (is_known c) packets;
}

-- the same of more behind a first one, if there is one
abbrev pub alike_behind : Option L1Parts → List L1Parts → Bool
alike_behind None more = all_alike more
alike_behind (Some l1) more = list_all (same_parts l1) more

abbrev pub unlike_behind : Option Stamp → List Stamp → Option Stamp
unlike_behind None more = first_unlike more
unlike_behind (Some s) more = find (is_unlike s) more

-- the tally of one packet more
abbrev pub tally_with : Config → Tally → Packet → Tally
tally_with c t p = record {
  right = map (λ plp. slice_index t.right plp + length (right_blocks c plp (p ∷ []))) (places c);
  blocks = map (λ plp. slice_index t.blocks plp + length (blocks_of c plp (p ∷ []))) (places c);
  l1 = option_or t.l1 (slice_get (l1s_of (p ∷ [])) 0);
  alike = t.alike && alike_behind t.l1 (l1s_of (p ∷ []));
  stamp = option_or t.stamp (slice_get (stamps_of (p ∷ [])) 0);
  unlike = option_or t.unlike (unlike_behind t.stamp (stamps_of (p ∷ [])));
  known = t.known && is_known c p;
}

-- the tests by a tally
abbrev pub tally_need : Config → Tally → ℕ
tally_need c t = sum_by (λ plp. slice_index t.right plp * chunks_for (block_bytes c plp)) (places c)

-- a
abbrev pub tally_room : Config → Tally → Option MuteCause
tally_room c t = unless (nat_le (tally_need c t) (pool_chunks c)) (PoolFull (capped (tally_need c t)) (pool_chunks c))

abbrev pub tally_pool : Config → List Numbered → ℕ → Tally → Option MuteCause
tally_pool c past n t = option_or (first_failure (begun_test c past n) (range_with_len 0 n)) (tally_room c t)

-- b
abbrev pub tally_missing : Config → ℕ → Tally → Option MuteCause
tally_missing c n t = unless (is_some t.l1 && (not (begins_superframe c n) || is_some t.stamp)) PacketMissing

-- c
abbrev pub tally_l1 : Config → ℕ → Tally → Option MuteCause
tally_l1 c n t = unless (t.alike && option_map_or (parts_agree c n) t.l1 true) L1Refused

-- d: if the first timestamp agrees, the first one unlike it does not
abbrev pub first_late : Config → ℕ → Tally → Stamp → Option Stamp
first_late c n t s = if stamp_agrees c n s then t.unlike else Some s

abbrev pub tally_time : Config → ℕ → Tally → Option MuteCause
tally_time c n t = if begins_superframe c n then option_map (disagrees c n) (option_and_then (first_late c n t) t.stamp)
    else None

-- e
abbrev pub tally_counts : Config → List Numbered → ℕ → Tally → Option FrameShape → Bool
tally_counts c past n t None = false
tally_counts c past n t (Some shape) = list_all
    (λ plp. has_count c past n plp (slice_index t.blocks plp) (slice_index shape.counts plp)) (places c)

abbrev pub tally_shape : Config → Tally → Option FrameShape
tally_shape c t = option_and_then (l1_shape c) t.l1

abbrev pub tally_blocks : Config → List Numbered → ℕ → Tally → Option MuteCause
tally_blocks c past n t = unless (tally_counts c past n t (tally_shape c t) && t.known) PacketMissing

-- f
abbrev pub tally_map : Config → Tally → Option MuteCause
tally_map c t = unless (has_map c (tally_shape c t)) MapRefused

unfoldable pub tally_fault : Config → List Numbered → ℕ → Tally → Option MuteCause
tally_fault c past n t =
    option_or (tally_pool c past n t)
    (option_or (tally_missing c n t)
    (option_or (tally_l1 c n t) (option_or (tally_time c n t) (option_or (tally_blocks c past n t) (tally_map c t)))))
