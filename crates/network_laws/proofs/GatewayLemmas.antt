-- What a gateway's block of the bytes from place x up to place y of its string tells of them, as a receiver reads it;
-- and the blocks of an epoch, one behind another.
use Rattle.std.specs.Prelude.{◌≡◌, ℕ, ◌+◌, ◌-◌, ◌*◌, ◌<◌, ◌≤◌, suc, true, List, length, get_or, slice_get, option_map}
use Rattle.std.specs.Prelude.{min}
use Rattle.std.specs.Int.{div_ceil}
use Rattle.plp_config.specs.SlotTime.{start, slot_start, InRange}
use Rattle.plp_config.specs.declared.config.Config.{Config}
use Rattle.mode_adapt.specs.Blocks.{header_at, up_with, block_places}
use Rattle.plp_receiver.specs.declared.slot_rule.SlotRule.{SlotRule}
use Rattle.plp_receiver.specs.Sound.{IsSound}
use Rattle.plp_receiver.specs.Taken.{block_read}
use Rattle.network_laws.proofs.RegularLemmas.{IsBlock, iscr_is}
use Rattle.std.proofs.Common.{◌≡◌, ℕ, ◌+◌, ◌-◌, ◌*◌, ◌/◌, ◌%◌, ◌^◌, ◌==◌, ◌<◌, ◌≤◌, Bool, true, false, List, length}
use Rattle.std.proofs.Common.{get_or, Option, Some, None, ap, ◌∙◌, arith, inl, inr, cond, eq-eqb, zero, suc, [], ◌++◌}
use Rattle.std.proofs.Common.{map, sym, add-one, length-append}
use Rattle.std.proofs.lemmas.Bool.{cases_lt, cases_eq, lt-ltb, le-ltb, false_from_ne_true, eqb-true}
use Rattle.std.proofs.lemmas.Nat.{div-add-mod', mod_below}
use Rattle.std.proofs.lemmas.Option.{slice_get-get_or}
use Rattle.std.proofs.Math.Nat.{mul-le-mul_left}
use Rattle.bb_frame.specs.declared.header.Header.{Header}
use Rattle.plp_config.specs.Laws.{IscrFindsSlot, SoundTimes}
use Rattle.plp_receiver.specs.declared.mark.Mark.{Mark}
use Rattle.plp_receiver.specs.declared.mark.Mark.TheVariants.{Next, Timed}
use Rattle.plp_receiver.specs.Strings.{first_mark, Item}
use Rattle.plp_config.specs.SlotTimes.{slot_of_iscr}
use Rattle.std.specs.List.{flat_map, range_with_len}
use Rattle.std.proofs.lemmas.List.{flat_map_more}
use Rattle.std.proofs.lemmas.List.FromFn.{map-range_with_len_more}
use Rattle.mode_adapt.specs.Laws.{WithinLaw}
use Rattle.network_laws.specs.RecoverLaws.{InterleavingIsEpoch}

-- The kept slots are these, those of the bytes of the block are of a epoch's range, and the bytes hold the dnps.
pub record IsSent (r : SlotRule) (c : Config) (plp : ℕ) (kept : List ℕ) (dnps : ℕ → ℕ) (epoch x y : ℕ)
    (field : List ℕ) : Type 0 where
  pub starts : (k : ℕ) → start c plp k ≡ slot_start r.times.num r.times.den k
  pub some : x < y
  pub short : y - x ≤ 6720
  pub within : y ≤ r.up_len * length kept
  pub size : length field ≡ y - x
  pub range : (n : ℕ) → x ≤ r.up_len * n → r.up_len * n < y
      → InRange r.times.num r.times.den r.times.epoch epoch (get_or kept n 0)
  pub values : (k i : ℕ) → x + i + 1 ≡ r.up_len * suc k → i < length field → r.deletes ≡ true
      → get_or field i 0 ≡ dnps k

pub ceil_parts : (x len : ℕ) → 1 ≤ len → (x ≤ len * div_ceil x len) × (len * div_ceil x len < x + len)
ceil_parts x len l =
    let q : x / len * len + x % len ≡ x = div-add-mod' x len in
    elim (cases_eq (x % len) 0) [
      | inl e ↦
          let d : div_ceil x len ≡ x / len = omega arith in
          let p : len * div_ceil x len ≡ x / len * len = ap (λ (n : ℕ). len * n) d ∙ omega arith in
          (omega arith, omega arith)
      | inr ne ↦
          let d : div_ceil x len ≡ x / len + 1 = omega arith in
          let p : len * div_ceil x len ≡ x / len * len + len = ap (λ (n : ℕ). len * n) d ∙ omega arith in
          (omega (arith, mod_below x len l), omega arith)
    ]

timed_mark : (v : ℕ) → v < 2 ^ 22 → first_mark (0x800000 + v) ≡ Timed v
timed_mark v l =
    let d : (0x800000 + v) / 2 ^ 22 ≡ 2 = omega arith in
    let m : (0x800000 + v) % 2 ^ 22 ≡ v = omega arith in
    ap (λ (b : Bool). cond {A = Mark} b (Timed ((0x800000 + v) % 2 ^ 22)) Next) (eq-eqb _ _ d)
    ∙ ap (λ (n : ℕ). Timed n) m

module _ (law : IscrFindsSlot) (r : SlotRule) (c : Config) (plp : ℕ) (kept : List ℕ) (dnps : ℕ → ℕ) (epoch x y : ℕ)
    (field : List ℕ) (sound : IsSound r) (is : IsSent r c plp kept dnps epoch x y field) where
  abbrev n : ℕ
  n = div_ceil x r.up_len

  abbrev header : Header
  header = header_at c plp x (y - x) (up_with r.up_len kept 0 n y)

  one : 1 ≤ r.up_len
  one = omega arith

  end : x + length field ≡ y
  end = omega arith

  none_is : y ≤ r.up_len * n → header.syncd ≡ 65535
  none_is l =
      rw (le-ltb (r.up_len * n) y l)

  module _ (l : r.up_len * n < y) where
    inside : n < length kept
    inside = elim (cases_lt n (length kept)) [
      | inl lt ↦ lt
      | inr ge ↦ absurd (omega (arith, mul-le-mul_left {m = length kept} {n = n} r.up_len ge))
    ]

    up_is : up_with r.up_len kept 0 n y ≡ Some (r.up_len * n, get_or kept n 0)
    up_is =
        let z : n - 0 ≡ n = omega arith in
        ap (λ (b : Bool). cond b (option_map (λ (k : ℕ). (r.up_len * n, k)) (slice_get kept (n - 0))) None)
        (lt-ltb (r.up_len * n) y l)
        ∙ ap (λ (i : ℕ). option_map (λ (k : ℕ). (r.up_len * n, k)) (slice_get kept i)) z
        ∙ ap (option_map (λ (k : ℕ). (r.up_len * n, k))) (slice_get-get_or kept n 0 inside)

    syncd_is : header.syncd ≡ 8 * (r.up_len * n - x)
    syncd_is = ap (λ (o : Option (ℕ × ℕ)). (header_at c plp x (y - x) o).syncd) up_is

    issy_is : header.issy ≡ 0x800000 + slot_start r.times.num r.times.den (get_or kept n 0) % 2 ^ 22
    issy_is = rw (up_is, is.starts (get_or kept n 0))

    first_is : (block_read header field).first ≡ Some (r.up_len * n - x)
    first_is =
        let not_none : (header.syncd == 65535) ≡ false =
        false_from_ne_true _ (λ (t : (header.syncd == 65535) ≡ true).
        omega (arith, eqb-true header.syncd 65535 t, syncd_is, (ceil_parts x r.up_len one).0)) in
        let d : header.syncd / 8 ≡ r.up_len * n - x = omega (arith, syncd_is) in
        ap (λ (b : Bool). cond b None (Some (header.syncd / 8))) not_none ∙ ap (λ (k : ℕ). Some k) d

    tells : (iscr : ℕ) × (first_mark header.issy ≡ Timed iscr)
        × (slot_of_iscr r.times epoch iscr ≡ Some (get_or kept n 0))
    tells =
        let v : ℕ = slot_start r.times.num r.times.den (get_or kept n 0) % 2 ^ 22 in (
          v,
          ap first_mark issy_is ∙ timed_mark v (omega arith),
          iscr_is law r epoch (get_or kept n 0) sound
              (is.range n (ceil_parts x r.up_len one).0 l),
        )

  pub gateway_block : IsBlock r (λ n. get_or kept n 0) dnps epoch x n (block_read header field)
  gateway_block = record {
    least = (ceil_parts x r.up_len one).0;
    close = (ceil_parts x r.up_len one).1;
    none = λ l. ap (λ (b : Bool). cond b None (Some (header.syncd / 8)))
        (eq-eqb header.syncd 65535 (none_is (omega (arith, end))));
    some = λ l. first_is (omega (arith, end));
    issy = λ l. tells (omega (arith, end));
    values = is.values;
  }

-- for whatever can be said of strings by their places and is true of two strings joined
module _ (P : ℕ → List Item → Type 0) (none : (place : ℕ) → P place []) (join : (place : ℕ) (z y : List Item)
    → P place z
    → P (place + length z) y → P place (z ++ y))
    (items : ℕ → List Item) (len x y : ℕ) (pos : 1 ≤ len) (order : x ≤ y)
    (each : (from : ℕ) → x ≤ from → from < y → (length (items from) ≡ min (from + len) y - from)
    × P from (items from)) where
  abbrev count : ℕ
  count = div_ceil (y - x) len

  abbrev place : ℕ → ℕ
  place i = x + i * len

  abbrev first_items : ℕ → List Item
  first_items j = flat_map items (map place (range_with_len 0 j))

  pub record UpTo (j : ℕ) : Type 0 where
    pub size : length (first_items j) ≡ min (j * len) (y - x)
    pub holds : P x (first_items j)

  more : (j : ℕ) → first_items (suc j) ≡ first_items j ++ items (place j)
  more j =
      sym (ap first_items (add-one j))
      ∙ ap (flat_map items) (map-range_with_len_more place 0 j j (let e : 0 + j ≡ j = omega arith in e))
      ∙ sym (flat_map_more items [] (map place (range_with_len 0 j)) (place j))

  below : (j : ℕ) → j < count → j * len < y - x
  below j l =
      let q : len * suc j ≤ len * count = mul-le-mul_left {m = suc j} {n = count} len l in
      let s : len * suc j ≡ j * len + len = omega arith in
      omega (arith, (ceil_parts (y - x) len pos).1)

  up_to : (j : ℕ) → j ≤ count → UpTo j
  up_to zero l = record { size = omega arith; holds = none x }
  up_to (suc j) l = go (up_to j (omega arith)) (below j (omega arith))
    where
      go : UpTo j → j * len < y - x → UpTo (suc j)
      go p b =
          let block = each (place j) (omega arith) (omega arith) in
          let at : x + length (first_items j) ≡ place j = omega arith in
          record {
            size = ap length (more j)
                ∙ length-append (first_items j) (items (place j))
                ∙ omega arith;
            holds = rw (more j) (join x (first_items j) (items (place j)) p.holds (rw at block.1));
          }

  pub whole : (length (flat_map items (block_places len x y)) ≡ y - x) × P x (flat_map items (block_places len x y))
  whole =
      let p = up_to count (omega arith) in
      (omega (arith, (ceil_parts (y - x) len pos).0), p.holds)

-- the interleaving frames of a plan
pub interleaving_is_epoch : WithinLaw → SoundTimes → InterleavingIsEpoch
interleaving_is_epoch within times c plp plan l =
    let t = times c plp plan.rules l in
    let w = within c plp plan l in
    record { some = t.least; most = t.most; within = w.0; holds = w.1 }
