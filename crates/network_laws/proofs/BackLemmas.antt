-- What comes back of a slot of a group with a common PLP, by whether its packet is shared.
use Rattle.std.proofs.Common.{◌≡◌, ℕ, zero, suc, Bool, true, false, List, [], ◌∷◌, length, map, Some, None, refl, subst}
use Rattle.std.proofs.Common.{◌+◌, ◌-◌, ◌*◌, ◌/◌, ◌<◌, ◌&&◌, not, ap, ap₂, sym, ◌∙◌, arith}
use Rattle.std.specs.Prelude.{slice_get, is_some, unwrap_or, if◌then◌else◌}
use Rattle.std.specs.declared.option.Option.{Option}
use Rattle.std.specs.List.{AllByRecursion, range_with_len}
use Rattle.std.proofs.lemmas.Option.{same_Some, get_or_from_slice_get}
use Rattle.terms.proofs.AllLemmas.{all_map}
use Rattle.terms.proofs.OptionLemmas.{none_some}
use Rattle.network_laws.proofs.GivenLemmas.{null_is, in_each_slot}
use Rattle.std.proofs.lemmas.Bool.{cond-true, cond-false}
use Rattle.plp_config.specs.declared.config.Config.{Config}
use Rattle.ts_packet.specs.Null.{null_packet, is_null}
use Rattle.null_delete.specs.Deletion.{packet_at, is_kept}
use Rattle.common_plp.specs.Groups.{is_common, common_of, group_of, own_places}
use Rattle.common_plp.specs.Shared.{shared_packet, common_packet, own_packet, is_shared, joined_packet}
use Rattle.common_plp.specs.Split.{slot_of, longest, common_stream, own_stream, split, group_streams, joined}
use Rattle.common_plp.proofs.MemberLemmas.{first_has, members_have}
use Rattle.network_laws.specs.ToldEpochs.{IsPacket}
use Rattle.std.proofs.lemmas.List.FromFn.{length-map-range_with_len, get_or-map-range_with_len}
use Rattle.terms.proofs.CaseLemmas.{bool_cases}
use Rattle.terms.proofs.RangeLemmas.{map_same}
use Rattle.common_plp.proofs.JoinLemmas.{map_lag}
use Rattle.ts_packet.proofs.WritingLemmas.{canonical_null}
use Rattle.plp_config.specs.Plps.{plp_at, spread}
use Rattle.plp_config.specs.SlotTime.{epoch_ticks, released_count, delay_ticks}
use Rattle.plp_config.specs.SlotTimes.{slot_times}
use Rattle.plp_config.specs.declared.slot_times.SlotTimes.{SlotTimes}
use Rattle.mode_adapt.specs.Blocks.{rates_of, plp_keeps}
use Rattle.record_laws.specs.Records.{record_of}
use Rattle.record_laws.specs.Recover.{due_slots, recovered, is_touched, lost_frames}
use Rattle.network_laws.specs.RecoverLaws.{RunRecovers}
use Rattle.common_plp.specs.Laws.{InStep, SplitSlot, JoinedSlots}
use Rattle.common_plp.proofs.LawLemmas.{has_common, own_member, own_case}
use Rattle.plp_receiver.specs.JoinedBack.{JoinedBackWith, JoinedBack}
use Rattle.network_laws.specs.CommonLaws.{CommonComesBack, comes_back}

one_of : (packets : List (List ℕ)) (k : ℕ) (p : List ℕ) → AllByRecursion IsPacket packets → slice_get packets k ≡ Some p
    → IsPacket p
one_of [] k p h e = none_some p e
one_of (x ∷ xs) zero p h e = rw (← (same_Some x p e)) h.0
one_of (x ∷ xs) (suc k) p h e = one_of xs k p h.1 e

by_option : (o : Option (List ℕ)) → ((p : List ℕ) → o ≡ Some p → IsPacket p) → IsPacket (unwrap_or o null_packet)
by_option None f = null_is
by_option (Some p) f = f p refl

common_is : (inputs : ℕ → List (List ℕ)) (places : List ℕ) (k : ℕ) → ((q : ℕ) → AllByRecursion IsPacket (inputs q))
    → IsPacket (common_packet (slot_of (map inputs places) k))
common_is inputs [] k all = null_is
common_is inputs (place ∷ places) k all =
    by_option (shared_packet (slot_of (map inputs (place ∷ places)) k))
    (λ p e. one_of (inputs place) k p (all place) (first_has (slice_get (inputs place) k)
    (slot_of (map inputs places) k) p e).0)

own_is : (b : Bool) (p : List ℕ) → IsPacket p → IsPacket (if b then null_packet else p)
own_is true p h = null_is
own_is false p h = h

stream_is : (common some : Bool) (inputs : ℕ → List (List ℕ)) (places : List ℕ) (plp : ℕ)
    → ((q : ℕ) → AllByRecursion IsPacket (inputs q))
    → AllByRecursion IsPacket (if common then common_stream (map inputs places)
    else if some then own_stream (map inputs places) (inputs plp) else inputs plp)
stream_is true some inputs places plp all =
    all_map IsPacket (λ k. common_packet (slot_of (map inputs places) k))
    (range_with_len 0 (longest (map inputs places)))
    (λ k. common_is inputs places k all)
stream_is false true inputs places plp all =
    all_map IsPacket (λ k. own_packet (slot_of (map inputs places) k) (packet_at (inputs plp) k))
    (range_with_len 0 (length (inputs plp)))
    (λ k. own_is (is_shared (slot_of (map inputs places) k)) (packet_at (inputs plp) k)
    (in_each_slot IsPacket null_is (inputs plp) (all plp) k))
stream_is false false inputs places plp all = all plp

pub split_packets : (c : Config) (inputs : ℕ → List (List ℕ)) (plp : ℕ) → ((q : ℕ) → AllByRecursion IsPacket (inputs q))
    → AllByRecursion IsPacket (split c inputs plp)
unfolding split
split_packets c inputs plp all =
    stream_is (is_common c plp) (is_some (common_of c plp)) inputs (own_places c (group_of c plp)) plp all

-- ---- one packet

null_is_null : is_null null_packet ≡ true
null_is_null = canonical_null.0

-- a packet that is not null is kept
kept : (deletes : Bool) (nulls : ℕ → Bool) (k : ℕ) → nulls k ≡ false → is_kept deletes nulls k ≡ true
kept true nulls k off = rw off refl
kept false nulls k off = refl

-- what is recovered of a slot
some_back : (c : Config) (plp : ℕ) (at : ℕ → List ℕ) (lost : List ℕ) (k : ℕ) → is_null (at k) ≡ false
    → recovered c plp (epoch_ticks c plp) at lost k
    ≡ (if not (is_touched (rates_of c plp (epoch_ticks c plp)) (plp_keeps c plp at) lost k) then at k else null_packet)
some_back c plp at lost k off =
    rw (kept (plp_at c.plps plp).delete (λ j. is_null (at j)) k off)

-- of a null packet a null packet
null_if : (b : Bool) (p : List ℕ) → is_null p ≡ true → is_null (if b then p else null_packet) ≡ true
null_if true p e = e
null_if false p e = null_is_null

null_back : (c : Config) (plp : ℕ) (at : ℕ → List ℕ) (lost : List ℕ) (k : ℕ) → is_null (at k) ≡ true
    → is_null (recovered c plp (epoch_ticks c plp) at lost k) ≡ true
null_back c plp at lost k e =
    null_if (plp_keeps c plp at k && not (is_touched (rates_of c plp (epoch_ticks c plp)) (plp_keeps c plp at) lost k))
    (at k) e

-- ---- two together

own_null : (common own : List ℕ) → is_null own ≡ true
    → joined_packet common own ≡ (if is_null common then null_packet else common)
own_null common own e = rw e (flip (is_null common) common)
  where
    flip : (b : Bool) (p : List ℕ) → (if not b then p else null_packet) ≡ (if b then null_packet else p)
    flip true p = refl
    flip false p = refl

common_null : (common own : List ℕ) → is_null common ≡ true
    → joined_packet common own ≡ (if is_null own then null_packet else own)
common_null common own e = rw e (flip (is_null own) own)
  where
    flip : (b : Bool) (p : List ℕ) → (if not b then p else (if not true then common else null_packet))
        ≡ (if b then null_packet else p)
    flip true p = refl
    flip false p = refl

-- a packet that is not null or a null packet
whole_or : (b : Bool) (p : List ℕ) → is_null p ≡ false → (if is_null (if b then p else null_packet) then null_packet
    else (if b then p else null_packet)) ≡ (if b then p else null_packet)
whole_or true p e = rw e refl
whole_or false p e = rw null_is_null refl

null_or : (q : List ℕ) → is_null q ≡ true → (if is_null q then null_packet else q) ≡ null_packet
null_or q e = rw e refl

-- ---- a slot

-- if it is shared, the common PLP's comes back
shared_slot : (c : Config) (common plp : ℕ) (at mine : ℕ → List ℕ) (lost gone : List ℕ) (k : ℕ) (p : List ℕ)
    → at k ≡ p → mine k ≡ null_packet → is_null p ≡ false
    → joined_packet (recovered c common (epoch_ticks c common) at lost k) (recovered c plp (epoch_ticks c plp)
    mine gone k)
    ≡ (if not (is_touched (rates_of c common (epoch_ticks c common)) (plp_keeps c common at) lost k)
    then p else null_packet)
shared_slot c common plp at mine lost gone k p here none some =
    let whole : Bool = not (is_touched (rates_of c common (epoch_ticks c common)) (plp_keeps c common at) lost k) in
    let back : recovered c common (epoch_ticks c common) at lost k ≡ (if whole then p else null_packet) =
    rw (some_back c common at lost k (ap is_null here ∙ some), here) in
    own_null (recovered c common (epoch_ticks c common) at lost k) (recovered c plp (epoch_ticks c plp) mine gone k)
    (null_back c plp mine gone k (ap is_null none ∙ null_is_null))
    ∙ ap (λ (q : List ℕ). if is_null q then null_packet else q) back ∙ whole_or whole p some

-- else its own, if it is not null
own_slot : (c : Config) (common plp : ℕ) (at mine : ℕ → List ℕ) (lost gone : List ℕ) (k : ℕ) (p : List ℕ)
    → at k ≡ null_packet → mine k ≡ p → is_null p ≡ false
    → joined_packet (recovered c common (epoch_ticks c common) at lost k) (recovered c plp (epoch_ticks c plp)
    mine gone k)
    ≡ (if not (is_touched (rates_of c plp (epoch_ticks c plp)) (plp_keeps c plp mine) gone k) then p else null_packet)
own_slot c common plp at mine lost gone k p none here some =
    let whole : Bool = not (is_touched (rates_of c plp (epoch_ticks c plp)) (plp_keeps c plp mine) gone k) in
    let back : recovered c plp (epoch_ticks c plp) mine gone k ≡ (if whole then p else null_packet) =
    some_back c plp mine gone k (ap is_null here ∙ some) ∙ ap (λ (q : List ℕ). if whole then q else null_packet) here in
    common_null (recovered c common (epoch_ticks c common) at lost k) (recovered c plp (epoch_ticks c plp) mine gone k)
    (null_back c common at lost k (ap is_null none ∙ null_is_null))
    ∙ ap (λ (q : List ℕ). if is_null q then null_packet else q) back ∙ whole_or whole p some

-- and nothing of a null packet
null_slot : (c : Config) (common plp : ℕ) (at mine : ℕ → List ℕ) (lost gone : List ℕ) (k : ℕ) → is_null (at k) ≡ true
    → is_null (mine k) ≡ true
    → joined_packet (recovered c common (epoch_ticks c common) at lost k) (recovered c plp (epoch_ticks c plp)
    mine gone k) ≡ null_packet
null_slot c common plp at mine lost gone k a b =
    own_null (recovered c common (epoch_ticks c common) at lost k) (recovered c plp (epoch_ticks c plp) mine gone k)
    (null_back c plp mine gone k b)
    ∙ null_or (recovered c common (epoch_ticks c common) at lost k) (null_back c common at lost k a)

-- ---- by whether a packet is shared

slot_comes : SplitSlot → (c : Config) (inputs : ℕ → List (List ℕ)) (common plp : ℕ) (muted : ℕ
    → Bool) (first count k : ℕ) → plp < length c.plps → common_of c plp ≡ Some common
    → joined_packet
    (recovered c common (epoch_ticks c common) (packet_at (split c inputs common))
    (lost_frames c common muted first count) k)
    (recovered c plp (epoch_ticks c plp) (packet_at (split c inputs plp)) (lost_frames c plp muted first count) k)
    ≡ comes_back c inputs common plp muted first count k
slot_comes law c inputs common plp muted first count k inside is =
    let h = has_common c plp common is in
    let slot : List (Option (List ℕ)) = slot_of (group_streams c inputs (group_of c plp)) k in
    let p : List ℕ = packet_at (inputs plp) k in
    let lost : List ℕ = lost_frames c common muted first count in
    let gone : List ℕ = lost_frames c plp muted first count in
    let at : packet_at (split c inputs common) k ≡ common_packet slot = rw (law c inputs common k, h.is, h.same) in
    let mine : packet_at (split c inputs plp) k ≡ own_packet slot p =
    law c inputs plp k ∙ own_case (is_common c plp) (is_some (common_of c plp)) _ _ _ h.own (ap is_some is) in
    by_slot slot p lost gone at mine (shared_packet slot) refl
    (λ q e. let m = members_have inputs (own_places c (group_of c plp)) plp k q (own_member c plp inside h.own) e in
    (get_or_from_slice_get (inputs plp) k q null_packet m.0, m.1))
  where
    by_slot : (slot : List (Option (List ℕ))) (p : List ℕ) (lost gone : List ℕ)
        → packet_at (split c inputs common) k ≡ common_packet slot
        → packet_at (split c inputs plp) k ≡ own_packet slot p → (o : Option (List ℕ)) → shared_packet slot ≡ o
        → ((q : List ℕ) → shared_packet slot ≡ Some q → (p ≡ q) × (is_null q ≡ false))
        → joined_packet (recovered c common (epoch_ticks c common) (packet_at (split c inputs common)) lost k)
        (recovered c plp (epoch_ticks c plp) (packet_at (split c inputs plp)) gone k)
        ≡ (if is_null p then null_packet
        else if (if is_shared slot then not (is_touched (rates_of c common (epoch_ticks c common))
        (plp_keeps c common (packet_at (split c inputs common))) lost k)
        else not (is_touched (rates_of c plp (epoch_ticks c plp)) (plp_keeps c plp (packet_at (split c inputs plp)))
        gone k)) then p else null_packet)
    by_slot slot p lost gone at mine (Some q) e has =
        let f = has q e in
        let some : is_null p ≡ false = ap is_null f.0 ∙ f.1 in
        let shared : is_shared slot ≡ true = ap is_some e in
        shared_slot c common plp (packet_at (split c inputs common)) (packet_at (split c inputs plp)) lost gone k p
        (at ∙ ap (λ (o : Option (List ℕ)). unwrap_or o null_packet) e ∙ sym f.0) (rw (mine, shared)) some
        ∙ sym (rw (some, shared))
    by_slot slot p lost gone at mine None e has =
        let shared : is_shared slot ≡ false = ap is_some e in
        let none : packet_at (split c inputs common) k ≡ null_packet = at
        ∙ ap (λ (o : Option (List ℕ)). unwrap_or o null_packet) e in
        let here : packet_at (split c inputs plp) k ≡ p = mine ∙ cond-false (is_shared slot) null_packet p shared in
        bool_cases (is_null p)
        (λ null. null_slot c common plp (packet_at (split c inputs common)) (packet_at (split c inputs plp)) lost gone k
        (ap is_null none ∙ null_is_null) (ap is_null here ∙ null) ∙ sym (cond-true (is_null p) null_packet _ null))
        (λ some. own_slot c common plp (packet_at (split c inputs common)) (packet_at (split c inputs plp))
        lost gone k p none here some
        ∙ sym (rw (some, shared)))

-- ---- all slots

-- the slots that are due, by the times of slots and the spread
due_by : Config → SlotTimes → ℕ → ℕ → ℕ → List ℕ
due_by c t s first count =
    range_with_len ((first - s) * c.ticks * t.den / t.num)
    (released_count t.num t.den (delay_ticks t.num t.den t.epoch) ((first + count) * c.ticks) - (first - s)
    * c.ticks * t.den / t.num)

due_is : (c : Config) (plp first count : ℕ) → due_slots c plp first count ≡ due_by c (slot_times c plp)
    (spread c.plps plp) first count
unfolding due_by
due_is c plp first count = refl

-- a list made of each number of another, joined with a second one
joined_made : JoinedSlots → (f g : ℕ → List ℕ) (a n : ℕ)
    → joined (map f (range_with_len a n)) (map g (range_with_len a n)) ≡ map (λ k. joined_packet (f k) (g k))
    (range_with_len a n)
unfolding joined
joined_made slots f g a n =
    ap (λ (m : ℕ). map (λ k. joined_packet (packet_at (map f (range_with_len a n)) k)
    (packet_at (map g (range_with_len a n)) k)) (range_with_len 0 m)) (length-map-range_with_len g a n)
    ∙ lag (λ k. joined_packet (packet_at (map f (range_with_len a n)) k) (packet_at (map g (range_with_len a n)) k))
    (λ k. joined_packet (f k) (g k)) 0 a n (λ k lt.
    let e : 0 + k ≡ k = omega arith in
    ap₂ joined_packet
    (ap (packet_at (map f (range_with_len a n))) e ∙ get_or-map-range_with_len f a n k (a + k) null_packet lt refl)
    (ap (packet_at (map g (range_with_len a n))) e ∙ get_or-map-range_with_len g a n k (a + k) null_packet lt refl))
  where
    lag : (f g : ℕ → List ℕ) (a b n : ℕ) → ((k : ℕ) → k < n → f (a + k) ≡ g (b + k))
        → map f (range_with_len a n) ≡ map g (range_with_len b n)
    lag f g a b n same = map_lag f g a b n same

pub comes_all : InStep → SplitSlot → JoinedSlots → RunRecovers → CommonComesBack
unfolding JoinedBack
comes_all step law slots recovers c common plp inputs whole first count packets plan types inside is all back =
    let muted : ℕ → Bool = λ m. not (whole m) in
    let h = has_common c plp common is in
    let b = subst (λ (o : Option ℕ). JoinedBackWith o c plp first (map (record_of c (split c inputs) whole)
    (range_with_len first count)) packets) is back in
    let s = step c plp common plan.rules inside is in
    let due : due_slots c common first count ≡ due_slots c plp first count =
    rw (due_is c common first count, s.0, s.1, ← (due_is c plp first count)) in
    let shared : b.shared ≡ map (recovered c common (epoch_ticks c common) (packet_at (split c inputs common))
    (lost_frames c common muted first count))
    (due_slots c plp first count) =
    rw (
      recovers c common (split c inputs) whole first count b.shared plan types h.inside (split_packets c inputs
          common all) b.back_shared,
      due,
    ) in
    let own = recovers c plp (split c inputs) whole first count b.own plan types inside (split_packets c inputs plp all)
    b.back_own in
    b.packets_are ∙ ap₂ joined shared own
    ∙ joined_made slots _ _ _ _
    ∙ map_same _ _ _ _ (λ k from to. slot_comes law c inputs common plp muted first count k inside is)
