-- What comes of later epochs changes no packet of a slot that is given out.
use Rattle.std.proofs.Common.{◌≡◌, ℕ, suc, ◌+◌, ◌-◌, ◌*◌, ◌<◌, ◌≤◌, ◌==◌, ◌&&◌, Bool, true, false, List, [], ◌∷◌, ◌++◌}
use Rattle.std.proofs.Common.{length, map, Option, Some, None, refl, ap, ◌∙◌, sym, arith, inl, inr, append_assoc}
use Rattle.std.specs.Prelude.{nat_lt, nat_le, option_map, unwrap_or}
use Rattle.std.specs.Option.{option_or}
use Rattle.std.specs.List.{AllByRecursion, range_with_len, find, filter, flat_map}
use Rattle.std.proofs.lemmas.Bool.{cases_lt, false_from_ne_true, and_parts, eqb-true, ltb-true}
use Rattle.std.proofs.lemmas.List.{map-append}
use Rattle.std.proofs.lemmas.List.Elements.{filter-append}
use Rattle.std.proofs.lemmas.List.Folds.{find-append}
use Rattle.std.proofs.Math.Nat.{mul-le-mul_right}
use Rattle.terms.proofs.RangeLemmas.{range_append, map_same}
use Rattle.ts_packet.specs.Null.{null_packet}
use Rattle.plp_config.specs.SlotTime.{slot_start}
use Rattle.plp_config.specs.Laws.{CountRises, ReleasedFirst}
use Rattle.plp_receiver.specs.declared.slot_rule.SlotRule.{SlotRule}
use Rattle.plp_receiver.specs.Sound.{IsSound}
use Rattle.plp_receiver.specs.Strings.{Item, Block, gap, items_from, block_items, item_values}
use Rattle.plp_receiver.specs.Packets.{packet_of, UserPacket, user_packets, first_item, last_item}
use Rattle.plp_receiver.specs.Readback.{counts, counted, found_for, slot_packet}
use Rattle.plp_receiver.specs.SlotEpochs.{Epoch, HaveEnded, block_or_gap, epoch_items, string_of, first_slot, readback}
use Rattle.plp_config.specs.SlotTimes.{over_by, delay_of}
use Rattle.plp_receiver.specs.Times.{epoch_of, last_frame, due_after}
use Rattle.plp_receiver.specs.SlotEpochs.Epoch.{Lost, There}
use Rattle.plp_receiver.specs.SlotsHold.{From, UpTo, Since}
use Rattle.terms.proofs.AllLemmas.{all_append}
use Rattle.plp_receiver.proofs.PlaceLemmas.{all_map, begins_up_to, longer, all_of}
use Rattle.plp_receiver.proofs.TimeLemmas.{last_is_late}
use Rattle.plp_receiver.proofs.SlotListLemmas.{none_found}

-- Epochs of a string.

module _ (P : Item → Type 0) (len epoch : ℕ) (each : (x : Item) → x.epoch ≡ epoch → P x) where
  all_items : (b : Block) (i : ℕ) (vs : List ℕ) → AllByRecursion P (items_from len epoch b i vs)
  all_items b i [] = tt
  all_items b i (v ∷ vs) = (each _ refl, all_items b (i + 1) vs)

  all_blocks : (blocks : List (Option Block)) → AllByRecursion P (flat_map (block_or_gap len epoch) blocks)
  all_blocks [] = tt
  all_blocks (None ∷ blocks) = (each (gap epoch) refl, all_blocks blocks)
  all_blocks (Some b ∷ blocks) = all_append P (block_items len epoch b) _ (all_items b 0 b.field) (all_blocks blocks)

  pub all_epoch : (e : Epoch) → AllByRecursion P (epoch_items len epoch e)
  all_epoch Lost = (each (gap epoch) refl, tt)
  all_epoch (There blocks) = all_blocks blocks

pub since_string : (len epoch m : ℕ) (epochs : List Epoch) → m ≤ epoch → Since m (string_of len epoch epochs)
unfolding string_of
since_string len epoch m [] l = tt
since_string len epoch m (e ∷ epochs) l =
    all_append (λ (x : Item). m ≤ x.epoch) (epoch_items len epoch e) _
    (all_epoch (λ (x : Item). m ≤ x.epoch) len epoch (λ x f. omega (arith, f)) e)
    (since_string len (epoch + 1) m epochs (omega arith))

pub up_to_string : (len epoch m : ℕ) (epochs : List Epoch) → epoch + length epochs ≤ m + 1
    → UpTo m (string_of len epoch epochs)
unfolding string_of
up_to_string len epoch m [] l = tt
up_to_string len epoch m (e ∷ epochs) l =
    all_append (λ (x : Item). x.epoch ≤ m) (epoch_items len epoch e) _
    (all_epoch (λ (x : Item). x.epoch ≤ m) len epoch (λ x f. omega (arith, f)) e)
    (up_to_string len (epoch + 1) m epochs (omega arith))

pub string_append : (len epoch : ℕ) (epochs more : List Epoch) → string_of len epoch (epochs ++ more)
    ≡ string_of len epoch epochs ++ string_of len (epoch + length epochs) more
unfolding string_of
string_append len epoch [] more = let e : epoch ≡ epoch + 0 = omega arith in ap (λ (n : ℕ). string_of len n more) e
string_append len epoch (e ∷ epochs) more =
    let f : epoch + 1 + length epochs ≡ epoch + suc (length epochs) = omega arith in
    ap (λ (l : List Item). epoch_items len epoch e ++ l) (string_append len (epoch + 1) epochs more
    ∙ ap (λ (n : ℕ). string_of len (epoch + 1) epochs ++ string_of len n more) f)
    ∙ sym (append_assoc (epoch_items len epoch e) (string_of len (epoch + 1) epochs)
    (string_of len (epoch + suc (length epochs)) more))

-- What counts.

pub record Counts (r : SlotRule) (up : UserPacket) : Type 0 where
  pub below : up.slot < over_by r.times (first_item up.items).epoch
  pub early : last_frame r (last_item up.items).epoch * r.ticks < slot_start r.times.num r.times.den
      up.slot + delay_of r.times

counts_parts : (r : SlotRule) (up : UserPacket) → counts r up ≡ true → Counts r up
counts_parts r up h =
    let a : Bool = nat_le (over_by r.times ((first_item up.items).epoch - 1)) up.slot in
    let b : Bool = nat_lt up.slot (over_by r.times (first_item up.items).epoch) in
    let d : Bool =
    nat_lt (last_frame r (last_item up.items).epoch * r.ticks) (slot_start r.times.num r.times.den up.slot + delay_of
    r.times) in
    let p = and_parts a (b && d) h in
    let q = and_parts b d p.1 in
    record { below = ltb-true _ _ q.0; early = ltb-true _ _ q.1 }

module _ (r : SlotRule) (sound : IsSound r) where
  one_len : 1 ≤ r.up_len
  one_len = let u = sound.up in omega (arith, u)

  num_pos : 0 < r.times.num
  num_pos = let a = sound.times.some in let b = sound.times.long in omega (arith, a, b)

  den_pos : 0 < r.times.den
  den_pos = let a = sound.times.some in omega (arith, a)

  -- a slot of the range of a later frame has no packet yet
  pub none_yet : CountRises → (z : List Item) (epoch k : ℕ) → UpTo epoch z → over_by r.times epoch ≤ k
      → found_for r z k ≡ None
  unfolding counted
  none_yet rises z epoch k h l =
      let a = all_of r z in
      none_found (counts r) (λ (up : UserPacket). up.slot == k) (user_packets r z)
      (all_map (From r z 0 a.n) (λ (up : UserPacket). counts r up ≡ true → (up.slot == k) ≡ false)
      (λ up f e. false_from_ne_true _ (λ (t : (up.slot == k) ≡ true).
      let b = (counts_parts r up e).below in
      let m : (first_item up.items).epoch * r.times.epoch ≤ epoch * r.times.epoch =
      mul-le-mul_right r.times.epoch (begins_up_to r z 0 a.n epoch up one_len h f) in
      omega (
        arith,
        b,
        rises r.times.num r.times.den ((first_item up.items).epoch * r.times.epoch) (epoch * r.times.epoch) num_pos m,
        l,
        eqb-true up.slot k t,
      )))
      (user_packets r z) a.all)

  or_none : {X : Type 0} (o : Option X) → option_or o None ≡ o
  or_none None = refl
  or_none (Some x) = refl

  -- a slot that is given out when a frame begins has its packet
  pub final : ReleasedFirst → (z y : List Item) (frame k : ℕ) → Since (epoch_of r frame) y → k < due_after r frame
      → found_for r (z ++ y) k ≡ found_for r z k
  unfolding counted
  final law z y frame k h l =
      let m = longer r z y (epoch_of r frame) one_len h in
      let test : UserPacket → Bool = λ up. up.slot == k in
      let out : slot_start r.times.num r.times.den k + delay_of r.times ≤ frame * r.ticks =
      (law r.times.num r.times.den (delay_of r.times) (frame * r.ticks) k num_pos den_pos).0 l in
      let none : find test (filter (counts r) m.more) ≡ None =
      none_found (counts r) test m.more
      (all_map (λ (up : UserPacket). epoch_of r frame ≤ (last_item up.items).epoch)
      (λ (up : UserPacket). counts r up ≡ true
      → (up.slot == k) ≡ false)
      (λ up f e. false_from_ne_true _ (λ (t : (up.slot == k) ≡ true).
      let b = (counts_parts r up e).early in
      let s : up.slot ≡ k = eqb-true up.slot k t in
      let q : frame * r.ticks ≤ last_frame r (last_item up.items).epoch * r.ticks =
      mul-le-mul_right r.ticks (last_is_late r sound.spread frame (last_item up.items).epoch f) in
      omega (arith, b, q, out, ap (slot_start r.times.num r.times.den) s))) m.more m.all) in
      ap (λ (l : List UserPacket). find test (filter (counts r) l)) m.packets
      ∙ ap (find test) (filter-append (counts r) (user_packets r z) m.more)
      ∙ find-append test (filter (counts r) (user_packets r z)) (filter (counts r) m.more)
      ∙ ap (option_or (find test (filter (counts r) (user_packets r z)))) none
      ∙ or_none (find test (filter (counts r) (user_packets r z)))

  pub out_rises : ReleasedFirst → (a b : ℕ) → a ≤ b → due_after r a ≤ due_after r b
  out_rises law a b l =
      elim (cases_lt (due_after r b) (due_after r a)) [
        | inl lt ↦
            let p = (law r.times.num r.times.den (delay_of r.times) (a * r.ticks) (due_after r b) num_pos den_pos).0
            lt in
            let q : a * r.ticks ≤ b * r.ticks = mul-le-mul_right r.ticks l in
            let s = (law r.times.num r.times.den (delay_of r.times) (b * r.ticks) (due_after r b) num_pos den_pos).1
            (omega (arith, p, q)) in
            absurd (omega (arith, s))
        | inr ge ↦ ge
      ]

  pub record IsFront (first count later : ℕ) (epochs more : List Epoch) : Type 0 where
    pub others : List (List ℕ)
    pub front : readback r first (count + later) (epochs ++ more) ≡ readback r first count epochs ++ others

  pub readback_front : ReleasedFirst → (first count later : ℕ) (epochs more : List Epoch)
      → HaveEnded r first (first + count) epochs → IsFront first count later epochs more
  unfolding readback
  readback_front law first count later epochs more ended =
      let m0 : ℕ = epoch_of r first in
      let z : List Item = string_of r.up_len m0 epochs in
      let y : List Item = string_of r.up_len (m0 + length epochs) more in
      let s : ℕ = first_slot r first in
      let n : ℕ = due_after r (first + count) - s in
      let m : ℕ = due_after r (first + (count + later)) - s - n in
      let rises = out_rises law (first + count) (first + (count + later)) (omega arith) in
      let e : due_after r (first + (count + later)) - s ≡ n + m = omega (arith, rises) in
      let w : string_of r.up_len m0 (epochs ++ more) ≡ z ++ y = string_append r.up_len m0 epochs more in
      let same : map (slot_packet r (z ++ y)) (range_with_len s n) ≡ map (slot_packet r z) (range_with_len s n) =
      map_same (slot_packet r (z ++ y)) (slot_packet r z) s n
      (λ k a b.
      ap (λ (o : Option UserPacket). unwrap_or (option_map (λ (up : UserPacket). packet_of (item_values up.items)) o)
      null_packet)
      (final law z y (first + count) k (since_string r.up_len (m0 + length epochs) (epoch_of r (first + count)) more
      (omega (arith, ended))) (omega (arith, b)))) in
      record {
        others = map (slot_packet r (z ++ y)) (range_with_len (s + n) m);
        front =
            ap (λ (x : List Item). map (slot_packet r x) (range_with_len s (due_after r (first + (count + later)) - s)))
            w
            ∙ ap (map (slot_packet r (z ++ y))) (ap (range_with_len s) e ∙ range_append s n m)
            ∙ map-append (slot_packet r (z ++ y)) (range_with_len s n) (range_with_len (s + n) m)
            ∙ ap (λ (l : List (List ℕ)). l ++ map (slot_packet r (z ++ y)) (range_with_len (s + n) m)) same;
      }
