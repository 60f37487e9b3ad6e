-- What a window shows of the string so far, at each thing that happens to it.
use Rattle.std.proofs.Common.{◌≡◌, ◌≢◌, ℕ, suc, ◌+◌, ◌-◌, ◌^◌, ◌<◌, ◌≤◌, ◌==◌, Bool, true, false, List, []}
use Rattle.std.proofs.Common.{◌∷◌, ◌++◌, map, drop, replicate, get_or, Option, Some, None, refl, ap, ap₂, ◌∙◌, sym}
use Rattle.std.proofs.Common.{arith, append-nil, cond, eq-eqb}
use Rattle.std.specs.Prelude.{option_map, min}
use Rattle.std.specs.Option.{option_or}
use Rattle.std.specs.List.{range_with_len, find, filter}
use Rattle.std.proofs.lemmas.List.{map-append}
use Rattle.std.proofs.lemmas.List.Elements.{filter-append}
use Rattle.std.proofs.lemmas.List.Folds.{find-append}
use Rattle.std.proofs.Math.Bool.{and-false}
use Rattle.std.proofs.lemmas.Bool.{cases_lt, false_from_ne_true, eqb-true, le-ltb}
use Rattle.std.proofs.lemmas.Option.{none-some}
use Rattle.terms.proofs.RangeLemmas.{range_append, map_same}
use Rattle.plp_config.specs.Laws.{CountRises}
use Rattle.plp_receiver.specs.declared.slot_rule.SlotRule.{SlotRule}
use Rattle.plp_receiver.specs.Sound.{IsSound}
use Rattle.plp_config.specs.SlotTimes.{over_by}
use Rattle.plp_receiver.specs.Strings.{Item, item_values}
use Rattle.plp_receiver.specs.Base.{far}
use Rattle.plp_receiver.specs.Packets.{UserPacket, user_packets, packet_of}
use Rattle.plp_receiver.specs.Readback.{counts_by, counts, counted, found_for, slot_option}
use Rattle.plp_receiver.specs.Filling.{filled}
use Rattle.plp_receiver.specs.SlotsHold.{Shows, UpTo}
use Rattle.plp_receiver.proofs.SlotListLemmas.{map_none, put_list}
use Rattle.plp_receiver.proofs.ReadbackLemmas.{none_yet}

abbrev packet_of_up : UserPacket → List ℕ
packet_of_up up = packet_of (item_values up.items)

-- The slots of a frame come into range.
pub entered : (r : SlotRule) → IsSound r → CountRises
    → (z : List Item) (epoch first end next : ℕ) (slots : List (Option (List ℕ))) → Shows r z first end slots
    → UpTo epoch z → over_by r.times epoch ≤ end → end ≤ next
    → Shows r z first next (slots ++ replicate (next - end) None)
entered r sound rises z epoch first end next slots h u c l =
    let o = h.order in
    let e : next - first ≡ (end - first) + (next - end) = omega (arith, o) in
    let f : first + (end - first) ≡ end = omega (arith, o) in
    record {
      order = omega (arith, o);
      slots_are =
          ap₂ (λ (a b : List (Option (List ℕ))). a ++ b) h.slots_are
          (sym (ap (λ (n : ℕ). map (slot_option r z) (range_with_len n (next - end))) f
          ∙ map_none (slot_option r z) (next - end) end
          (λ k a b. ap (option_map packet_of_up) (none_yet r sound rises z epoch k u (omega (arith, c))))))
          ∙ sym (map-append (slot_option r z) (range_with_len first (end - first))
          (range_with_len (first + (end - first)) (next - end)))
          ∙ sym (ap (map (slot_option r z)) (ap (range_with_len first) e
          ∙ range_append first (end - first) (next - end)));
    }

same_counted : (r : SlotRule) (z w : List Item) → user_packets r w ≡ user_packets r z → counted r w ≡ counted r z
unfolding counted
same_counted r z w e = ap (filter (counts r)) e

shown_by : (r : SlotRule) (z w : List Item) (first end : ℕ) (slots : List (Option (List ℕ))) → counted r w ≡ counted r z
    → Shows r z first end slots → Shows r w first end slots
shown_by r z w first end slots e h = grind (arith, map_same)

-- No user packet ends.
pub nothing_found : (r : SlotRule) (z w : List Item) (first end : ℕ) (slots : List (Option (List ℕ)))
    → user_packets r w ≡ user_packets r z → Shows r z first end slots → Shows r w first end slots
nothing_found r z w first end slots e h = shown_by r z w first end slots (same_counted r z w e) h

module _ (r : SlotRule) (z w : List Item) (up : UserPacket) (gains : user_packets r w ≡ user_packets r z
    ++ up ∷ []) where
  counted_more : (b : Bool) → counts r up ≡ b → counted r w ≡ counted r z ++ cond b (up ∷ []) []
  unfolding counted
  counted_more b e = ap (filter (counts r)) gains ∙ filter-append (counts r) (user_packets r z) (up ∷ [])
      ∙ ap (λ (t : Bool). filter (counts r) (user_packets r z) ++ cond {A = List UserPacket} t (up ∷ []) []) e

  -- One ends that does not count.
  pub not_counted : (first end : ℕ) (slots : List (Option (List ℕ))) → counts r up ≡ false → Shows r z first end slots
      → Shows r w first end slots
  not_counted first end slots e h = shown_by r z w first end slots (counted_more false e ∙ append-nil (counted r z)) h

  option_is : (k : ℕ) → counts r up ≡ true
      → slot_option r w k ≡ option_map packet_of_up (option_or (found_for r z k) (cond (up.slot == k) (Some up) None))
  option_is k e = ap (option_map packet_of_up) (ap (find (λ (u : UserPacket). u.slot == k)) (counted_more true e)
      ∙ find-append (λ (u : UserPacket). u.slot == k) (counted r z) (up ∷ []))

  other : (k : ℕ) → counts r up ≡ true → k ≢ up.slot → slot_option r w k ≡ slot_option r z k
  other k e ne = grind (arith, option_is, Option, false_from_ne_true, eqb-true)

  at : counts r up ≡ true → slot_option r w up.slot ≡ option_map packet_of_up
      (option_or (found_for r z up.slot) (Some up))
  at e = grind (arith, option_is, Option, eq-eqb)

  first_wins : (o : Option UserPacket)
      → (option_map packet_of_up o ≡ None → option_map packet_of_up (option_or o (Some up)) ≡ Some (packet_of_up up))
      × ((q : List ℕ) → option_map packet_of_up o ≡ Some q → option_map packet_of_up (option_or o (Some up))
      ≡ option_map packet_of_up o)
  first_wins None = (λ e. refl, λ q e. absurd (none-some q e))
  first_wins (Some u) = (λ e. absurd (none-some (packet_of_up u) (sym e)), λ q e. refl)

  -- One ends that counts, for a slot in the window or before it.
  pub put_in : (first end : ℕ) (slots : List (Option (List ℕ))) → counts r up ≡ true → first ≤ up.slot
      → Shows r z first end slots
      → Shows r w first end (filled slots (up.slot - first) (packet_of_up up))
  put_in first end slots e l h = grind (arith, Option, put_list, other, at, first_wins)

  pub too_late : (first end : ℕ) (slots : List (Option (List ℕ))) → counts r up ≡ true → up.slot < first
      → Shows r z first end slots → Shows r w first end slots
  too_late first end slots e l h = grind (arith, map_same, other)

-- The slot at the front is given out.
pub released : (r : SlotRule) (z : List Item) (first end : ℕ) (slots : List (Option (List ℕ))) → first < end
    → Shows r z first end slots
    → (get_or slots 0 None ≡ slot_option r z first) × Shows r z (first + 1) end (drop 1 slots)
released r z first end slots l h =
    let e : end - first ≡ suc (end - (first + 1)) = omega arith in
    let f : slots ≡ slot_option r z first ∷ map (slot_option r z) (range_with_len (first + 1) (end - (first + 1))) =
    h.slots_are ∙ ap (λ (n : ℕ). map (slot_option r z) (range_with_len first n)) e in
    (ap (λ (s : List (Option (List ℕ))). get_or s 0 None) f, record { order = omega arith; slots_are = ap (drop 1) f })

-- A slot that no range reaches does not count, whatever stands for it.
pub same_test : (r : SlotRule) (delay slot begun ended : ℕ) → over_by r.times begun < 2 ^ 53
    → counts_by r delay (min slot far) begun ended ≡ counts_by r delay slot begun ended
same_test r delay slot begun ended l = grind (arith, cases_lt, le-ltb, and-false)
