-- The blocks of a frame have room.
use Rattle.std.proofs.Common.{◌≡◌, ℕ, ◌<◌, ◌≤◌, Bool, true, false, List, map, length, Option, Some, None, refl, ap, sym}
use Rattle.std.proofs.Common.{arith}
use Rattle.std.specs.Prelude.{nat_le, is_some}
use Rattle.std.specs.List.{range_with_len}
use Rattle.std.specs.Option.{option_or}
use Rattle.std.proofs.lemmas.Bool.{leb-true, false≢true}
use Rattle.linked_pool.specs.Pool.{list_at}
use Rattle.plp_config.specs.declared.config.Config.{Config}
use Rattle.t2mi_packet.specs.declared.packet.Packet.{Packet}
use Rattle.frame_groups.specs.Modulated.{Numbered}
use Rattle.frame_groups.specs.declared.cause.MuteCause.{MuteCause}
use Rattle.frame_groups.specs.declared.cause.MuteCause.TheVariants.{PoolFull}
use Rattle.frame_groups.specs.Carried.{right_blocks}
use Rattle.frame_groups.specs.Tally.{Tally, tally_need, tally_room, tally_pool, tally_missing, tally_l1, tally_time}
use Rattle.frame_groups.specs.Tally.{tally_blocks, tally_map, tally_fault}
use Rattle.frame_groups.specs.Tests.{unless, pool_chunks, capped, begun_test, first_failure}
use Rattle.open_group.specs.HoldsBlocks.{HoldsCounts, HoldsLists}
use Rattle.open_group.specs.Sent.{held_bytes}
use Rattle.open_group.specs.declared.blocks.HeldBlocks.{HeldBlocks}

room_by : (fits : Bool) (cause : MuteCause) → unless fits cause ≡ None → fits ≡ true
room_by true cause e = refl
room_by false cause e = absurd (false≢true (ap is_some (sym e)))

-- Of two tests neither fails.
pub none_first : (a b : Option MuteCause) → option_or a b ≡ None → a ≡ None
none_first None b e = refl
none_first (Some cause) b e = e

pub none_behind : (a b : Option MuteCause) → option_or a b ≡ None → b ≡ None
none_behind None b e = e
none_behind (Some cause) b e = absurd (false≢true (ap is_some (sym e)))

has_room : (c : Config) (past : List Numbered) (n : ℕ) (t : Tally) → tally_fault c past n t ≡ None
    → tally_need c t ≤ pool_chunks c
unfolding tally_fault
has_room c past n t e =
    leb-true (tally_need c t) (pool_chunks c)
    (room_by (nat_le (tally_need c t) (pool_chunks c)) (PoolFull (capped (tally_need c t)) (pool_chunks c))
    (none_behind (first_failure (begun_test c past n) (range_with_len 0 n)) (tally_room c t)
    (none_first (tally_pool c past n t)
    (option_or (tally_missing c n t)
    (option_or (tally_l1 c n t)
    (option_or (tally_time c n t) (option_or (tally_blocks c past n t) (tally_map c t))))) e)))

pub holds_all : (c : Config) (held : HeldBlocks) (packets : List Packet) (past : List Numbered) (n : ℕ) (t : Tally)
    → HoldsCounts c held t
    → HoldsLists c held packets → held.chunks ≡ pool_chunks c → tally_fault c past n t ≡ None
    → (plp : ℕ) → plp < length c.plps → list_at held.pool plp ≡ map held_bytes (right_blocks c plp packets)
holds_all c held packets past n t counts lists chunks none = let room = has_room c past n t none in let need =
    counts.need in
    lists (omega (arith, room, need, chunks))
