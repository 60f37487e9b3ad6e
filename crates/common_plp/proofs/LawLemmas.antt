-- The laws of streams with common packets.
use Rattle.std.proofs.Common.{◌≡◌, ℕ, ◌<◌, ◌==◌, Bool, true, false, cond, List, length, map, take, Some, None}
use Rattle.std.proofs.Common.{refl, ap, ◌∙◌, arith}
use Rattle.std.specs.Prelude.{is_some, if◌then◌else◌}
use Rattle.std.specs.List.{find, range_with_len}
use Rattle.std.proofs.lemmas.Bool.Decides.{Decides-eqb}
use Rattle.std.proofs.lemmas.List.FromFn.{length-map-range_with_len}
use Rattle.std.proofs.lemmas.Option.{get_or_from_slice_get}
use Rattle.std.proofs.lemmas.Simd.{map-map}
use Rattle.std.proofs.lemmas.Bool.{and_parts}
use Rattle.terms.proofs.OptionLemmas.{none_some}
use Rattle.plp_config.specs.declared.config.Config.{Config}
use Rattle.ts_packet.specs.Null.{null_packet}
use Rattle.null_delete.specs.Deletion.{packet_at}
use Rattle.common_plp.specs.Groups.{is_common, group_of, is_common_in, is_own_in, common_of, own_places}
use Rattle.common_plp.specs.Shared.{shared_packet, common_packet, own_packet}
use Rattle.common_plp.specs.Split.{slot_of, longest, common_stream, own_stream, group_streams, split}
use Rattle.common_plp.specs.Laws.{SplitFront, SplitSlot, SplitLength, JoinedAgain}
use Rattle.common_plp.proofs.PlaceLemmas.{IsIn, found_passes, in_kept, in_range}
use Rattle.common_plp.proofs.MemberLemmas.{members_have, again}
use Rattle.common_plp.proofs.StreamLemmas.{common_front, own_front, common_at, own_at}

-- what goes in a PLP, by whether it is a common one or has one
abbrev stream_by : Bool → Bool → List (List (List ℕ)) → List (List ℕ) → List (List ℕ)
stream_by common some streams input =
    if common then common_stream streams else if some then own_stream streams input else input

front_by : (common some : Bool) (streams : List (List (List ℕ))) (input : List (List ℕ)) (n : ℕ)
    → take n (stream_by common some streams input) ≡ stream_by common some (map (take n) streams) (take n input)
front_by true some streams input n = common_front streams n
front_by false true streams input n = own_front streams input n
front_by false false streams input n = refl

pub split_front : SplitFront
unfolding split
split_front c inputs plp n =
    front_by (is_common c plp) (is_some (common_of c plp)) (group_streams c inputs (group_of c plp)) (inputs plp) n
    ∙ ap (λ (streams : List (List (List ℕ))). stream_by (is_common c plp) (is_some (common_of c plp))
    streams (take n (inputs plp)))
    (map-map (take n) inputs (own_places c (group_of c plp)))

slot_by : (common some : Bool) (streams : List (List (List ℕ))) (input : List (List ℕ)) (k : ℕ)
    → packet_at (stream_by common some streams input) k
    ≡ (if common then common_packet (slot_of streams k)
    else if some then own_packet (slot_of streams k) (packet_at input k) else packet_at input k)
slot_by true some streams input k = common_at streams k
slot_by false true streams input k = own_at streams input k
slot_by false false streams input k = refl

pub split_slot : SplitSlot
unfolding split
split_slot c inputs plp k =
    slot_by (is_common c plp) (is_some (common_of c plp)) (group_streams c inputs (group_of c plp)) (inputs plp) k

length_by : (common some : Bool) (streams : List (List (List ℕ))) (input : List (List ℕ))
    → length (stream_by common some streams input) ≡ (if common then longest streams else length input)
length_by true some streams input = length-map-range_with_len (λ k. common_packet (slot_of streams k))
    0 (longest streams)
length_by false true streams input =
    length-map-range_with_len (λ k. own_packet (slot_of streams k) (packet_at input k)) 0 (length input)
length_by false false streams input = refl

pub split_length : SplitLength
unfolding split
split_length c inputs plp =
    length_by (is_common c plp) (is_some (common_of c plp)) (group_streams c inputs (group_of c plp)) (inputs plp)

-- ---- together again

-- a PLP has a common one: it is none itself, and the other is one of the same group
pub record HasCommon (c : Config) (plp common : ℕ) : Type 0 where
  pub own : is_common c plp ≡ false
  pub inside : common < length c.plps
  pub is : is_common c common ≡ true
  pub same : group_of c common ≡ group_of c plp

common_by : (c : Config) (plp common : ℕ) (b : Bool) → is_common c plp ≡ b
    → cond b None (find (is_common_in c (group_of c plp)) (range_with_len 0 (length c.plps))) ≡ Some common
    → HasCommon c plp common
common_by c plp common true e is = none_some common is
common_by c plp common false e is =
    let f = found_passes (is_common_in c (group_of c plp)) 0 (length c.plps) common is in
    let b = and_parts (is_common c common) (group_of c common == group_of c plp) f.0 in
    record {
      own = e;
      inside = omega (arith, f.1);
      is = b.0;
      same = (Decides-eqb (group_of c common) (group_of c plp)).0 b.1;
    }

pub has_common : (c : Config) (plp common : ℕ) → common_of c plp ≡ Some common → HasCommon c plp common
has_common c plp common is = common_by c plp common (is_common c plp) refl is

-- it is one of the streams of its group
pub own_member : (c : Config) (plp : ℕ) → plp < length c.plps → is_common c plp ≡ false
    → IsIn plp (own_places c (group_of c plp))
own_member c plp inside own =
    in_kept (is_own_in c (group_of c plp)) plp (range_with_len 0 (length c.plps))
    (rw (own, (Decides-eqb (group_of c plp) (group_of c plp)).1 refl) refl)
    (in_range 0 (length c.plps) plp (omega arith) (omega (arith, inside)))

pub own_case : (common some : Bool) (x y z : List ℕ) → common ≡ false → some ≡ true
    → (if common then x else if some then y else z) ≡ y
own_case common some x y z off on = rw (off, on) refl

pub joined_again : JoinedAgain
joined_again c inputs plp common k inside is =
    let h = has_common c plp common is in
    let streams : List (List (List ℕ)) = group_streams c inputs (group_of c plp) in
    let of_common : packet_at (split c inputs common) k ≡ common_packet (slot_of streams k) =
    split_slot c inputs common k
    ∙ rw h.is (ap (λ (g : ℕ). common_packet (slot_of (group_streams c inputs g) k)) h.same) in
    let of_own : packet_at (split c inputs plp) k ≡ own_packet (slot_of streams k) (packet_at (inputs plp) k) =
    split_slot c inputs plp k
    ∙ own_case (is_common c plp) (is_some (common_of c plp)) (common_packet (slot_of streams k))
    (own_packet (slot_of streams k) (packet_at (inputs plp) k)) (packet_at (inputs plp) k) h.own (ap is_some is) in
    rw (of_common, of_own)
    (again (shared_packet (slot_of streams k)) (packet_at (inputs plp) k)
    (λ q e. let m = members_have inputs (own_places c (group_of c plp)) plp k q (own_member c plp inside h.own) e in
    (get_or_from_slice_get (inputs plp) k q null_packet m.0, m.1)))
