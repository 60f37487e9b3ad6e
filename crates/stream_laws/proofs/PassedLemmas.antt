-- What packets are that pass the tests as a frame.
use Rattle.std.proofs.Common.{◌≡◌, ℕ, true, List, [], ◌∷◌, Option, Some, None, refl}
use Rattle.std.specs.Prelude.{slice_get}
use Rattle.std.specs.List.{range_with_len}
use Rattle.std.specs.Option.{option_or, option_and_then}
use Rattle.std.proofs.lemmas.Bool.{and_parts, false≢true}
use Rattle.terms.proofs.OptionLemmas.{none_if}
use Rattle.plp_config.specs.declared.config.Config.{Config}
use Rattle.scheduler.specs.Shape.{FrameShape}
use Rattle.t2mi_packet.specs.declared.packet.Packet.{Packet}
use Rattle.frame_groups.specs.Modulated.{Numbered}
use Rattle.frame_groups.specs.declared.cause.MuteCause.{MuteCause}
use Rattle.frame_groups.specs.Carried.{L1Parts, l1s_of}
use Rattle.frame_groups.specs.MapTest.{map_passes}
use Rattle.frame_groups.specs.Tests.{begun_test, first_failure, room_test, pool_test, missing_test}
use Rattle.frame_groups.specs.Tests.{parts_agree, l1s_agree, l1_test, time_test, l1_shape, first_shape, blocks_test}
use Rattle.frame_groups.specs.Tests.{has_map, map_test, packets_fault}
use Rattle.open_group.proofs.GivenLemmas.{map_none}
use Rattle.open_group.proofs.RoomLemmas.{none_first, none_behind}

-- the first L1-current, and the shape that it tells
pub record FirstTold (c : Config) (n : ℕ) (o : Option L1Parts) : Type 0 where
  pub first : L1Parts
  pub is : o ≡ Some first
  pub agrees : parts_agree c n first ≡ true
  pub shape : FrameShape
  pub told : l1_shape c first ≡ Some shape
  pub map : map_passes c shape ≡ true

-- Packets pass the tests: the right blocks have room, and the first L1-current is the frame's and tells a shape with a
-- cell map.
pub record Passed (c : Config) (n : ℕ) (packets : List Packet) : Type 0 where
  pub room : room_test c packets ≡ None
  pub l1 : FirstTold c n (slice_get (l1s_of packets) 0)

has_shape : (c : Config) (n : ℕ) (l1 : L1Parts) → parts_agree c n l1 ≡ true → (o : Option FrameShape)
    → l1_shape c l1 ≡ o
    → has_map c o ≡ true → FirstTold c n (Some l1)
has_shape c n l1 agrees None e m = absurd (false≢true m)
has_shape c n l1 agrees (Some shape) e m =
    record { first = l1; is = refl; agrees = agrees; shape = shape; told = e; map = m }

first_told : (c : Config) (n : ℕ) (l1s : List L1Parts) → l1s_agree c n l1s ≡ true
    → has_map c (option_and_then (l1_shape c) (slice_get l1s 0)) ≡ true → FirstTold c n (slice_get l1s 0)
first_told c n [] a m = absurd (false≢true m)
first_told c n (l1 ∷ more) a m =
    has_shape c n l1 (and_parts _ _ a).1 (l1_shape c l1) refl m

l1_held : (c : Config) (n : ℕ) (packets : List Packet) → l1_test c n packets ≡ None
    → l1s_agree c n (l1s_of packets) ≡ true
unfolding l1_test
l1_held c n packets e = none_if _ _ e

map_held : (c : Config) (packets : List Packet) → map_test c packets ≡ None → has_map c (first_shape c packets) ≡ true
unfolding map_test
map_held c packets e = none_if _ _ e

room_held : (c : Config) (past : List Numbered) (n : ℕ) (packets : List Packet) → pool_test c past n packets ≡ None
    → room_test c packets ≡ None
unfolding pool_test
room_held c past n packets e = none_behind (first_failure (begun_test c past n) (range_with_len 0 n))
    (room_test c packets) e

pub passed : (c : Config) (past : List Numbered) (n : ℕ) (packets : List Packet) → packets_fault c past n packets ≡ None
    → Passed c n packets
unfolding packets_fault
passed c past n packets e =
    let d : Option MuteCause = option_or (blocks_test c past n packets) (map_test c packets) in
    let k : Option MuteCause = option_or (time_test c n packets) d in
    let b : Option MuteCause = option_or (l1_test c n packets) k in
    let a : Option MuteCause = option_or (missing_test c n packets) b in
    let l1 = none_first (l1_test c n packets) k
    (none_behind (missing_test c n packets) b (none_behind (pool_test c past n packets) a e)) in
    record {
      room = room_held c past n packets (none_first (pool_test c past n packets) a e);
      l1 = first_told c n (l1s_of packets) (l1_held c n packets l1)
          (map_held c packets (map_none c past n packets e));
    }
