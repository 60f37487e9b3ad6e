-- Slots and user packets of a string that grows by one item.
use Rattle.std.proofs.Common.{◌≡◌, ℕ, zero, suc, ◌+◌, ◌-◌, ◌<◌, ◌≤◌, false, List, [], ◌∷◌, ◌++◌, length}
use Rattle.std.proofs.Common.{drop, Option, None, refl, ap, ap₂, ◌∙◌, sym, arith, inl, inr, append-nil}
use Rattle.std.proofs.Common.{length-append, length-drop}
use Rattle.std.proofs.lemmas.Bool.{cases_lt}
use Rattle.std.proofs.lemmas.List.{take-append-le, drop-append-le, take_all, drop_all}
use Rattle.plp_receiver.specs.declared.slot_rule.SlotRule.{SlotRule}
use Rattle.plp_receiver.specs.Strings.{Item}
use Rattle.plp_receiver.specs.Packets.{UserPacket, is_one, slot_of, window}
use Rattle.plp_receiver.specs.Packets.{latest, slot_before, slots_at, with_slot, packets_at, user_packets}

pub none_of : (r : SlotRule) (w : List Item) (before : Option ℕ) → is_one w ≡ false → slot_of r w before ≡ None
unfolding slot_of
none_of r w before h = grind (arith, Option)

module _ (r : SlotRule) where
  same_window : (z ys : List Item) (x : ℕ) → x + r.up_len ≤ length z → window r (z ++ ys) x ≡ window r z x
  same_window z ys x h = grind (arith, drop-append-le, take-append-le, length-drop)

  same_slots : (z ys : List Item) (n : ℕ) → n + r.up_len ≤ length z + 1 → slots_at r (z ++ ys) n ≡ slots_at r z n
  unfolding slots_at
  same_slots z ys zero h = refl
  same_slots z ys (suc x) h =
      ap₂ (λ (w : List Item) (l : List (Option ℕ)). slot_of r w (slot_before r l) ∷ l)
      (same_window z ys x (omega arith))
      (same_slots z ys x (omega arith))

  pub same_packets : (z ys : List Item) (n : ℕ) → n + r.up_len ≤ length z + 1
      → packets_at r (z ++ ys) n ≡ packets_at r z n
  unfolding packets_at
  same_packets z ys zero h = refl
  same_packets z ys (suc x) h =
      let e = same_window z ys x (omega arith) in
      let f = same_slots z ys x (omega arith) in
      let g = same_packets z ys x (omega arith) in
      ap₂ (λ (w : List Item) (l : List (Option ℕ)). packets_at r (z ++ ys) x ++ with_slot w
      (slot_of r w (slot_before r l))) e f
      ∙ ap (λ (l : List UserPacket). l ++ with_slot (window r z x)
      (slot_of r (window r z x) (slot_before r (slots_at r z x)))) g

  length_slots : (z : List Item) (n : ℕ) → length (slots_at r z n) ≡ n
  unfolding slots_at
  length_slots z zero = refl
  length_slots z (suc x) = ap suc (length_slots z x)

  back : (z : List Item) (y j : ℕ) → drop j (slots_at r z (j + y)) ≡ slots_at r z y
  unfolding slots_at
  back z y zero = let e : 0 + y ≡ y = omega arith in ap (slots_at r z) e
  back z y (suc j) = let e : suc j + y ≡ suc (j + y) = omega arith in ap (λ (n : ℕ). drop (suc j) (slots_at r z n)) e
      ∙ back z y j

  pub before_at : (z : List Item) (x y : ℕ) → x ≡ (r.up_len - 1) + y
      → slot_before r (slots_at r z x) ≡ latest (slots_at r z y)
  before_at z x y e = ap (λ (n : ℕ). slot_before r (slots_at r z n)) e ∙ ap latest (back z y (r.up_len - 1))

  pub before_none : (z : List Item) (x : ℕ) → x < r.up_len → slot_before r (slots_at r z x) ≡ None
  before_none z x h = ap latest (drop_all (r.up_len - 1) (slots_at r z x) (omega (arith, length_slots z x)))

  pub same_before : (z ys : List Item) (x : ℕ) → 1 ≤ r.up_len → x ≤ length z → slot_before r (slots_at r (z ++ ys) x)
      ≡ slot_before r (slots_at r z x)
  same_before z ys x l h =
      elim (cases_lt x r.up_len) [
        | inl lt ↦ before_none (z ++ ys) x lt ∙ sym (before_none z x lt)
        | inr ge ↦
            let e : x ≡ (r.up_len - 1) + (x - (r.up_len - 1)) = omega arith in
            before_at (z ++ ys) x _ e ∙ ap latest (same_slots z ys (x - (r.up_len - 1)) (omega arith))
            ∙ sym (before_at z x _ e)
      ]

  pub slots_suc : (z : List Item) (x : ℕ) → latest (slots_at r z (suc x))
      ≡ slot_of r (window r z x) (slot_before r (slots_at r z x))
  unfolding slots_at
  slots_suc z x = refl

  -- no user packet ends where the string ends
  pub none_ends : (z : List Item) (x : ℕ) → 1 ≤ r.up_len → x + r.up_len ≡ length z → is_one (drop x z) ≡ false
      → slot_before r (slots_at r z (length z)) ≡ None
  none_ends z x l e h =
      let w : window r z x ≡ drop x z = take_all r.up_len (drop x z) (omega (arith, length-drop x z, e)) in
      before_at z (length z) (suc x) (omega arith)
      ∙ slots_suc z x
      ∙ ap (λ (v : List Item). slot_of r v (slot_before r (slots_at r z x))) w
      ∙ none_of r (drop x z) (slot_before r (slots_at r z x)) h

  module _ (z : List Item) (b : Item) where
    abbrev more : List Item
    more = z ++ b ∷ []

    size : length more ≡ length z + 1
    size = length-append z (b ∷ []) ∙ omega arith

    whole : (x : ℕ) → x + r.up_len ≡ length z + 1 → window r more x ≡ drop x more
    whole x e = take_all r.up_len (drop x more) (omega (arith, length-drop x more, size, e))

    latest_is : (x : ℕ) → latest (slots_at r more (suc x)) ≡ slot_of r (window r more x)
        (slot_before r (slots_at r more x))
    unfolding slots_at
    latest_is x = refl

    packets_are : (x : ℕ) → packets_at r more (suc x) ≡ packets_at r more x ++ with_slot (window r more x)
        (slot_of r (window r more x) (slot_before r (slots_at r more x)))
    unfolding packets_at
    packets_are x = refl

    module _ (x : ℕ) (l : 1 ≤ r.up_len) (e : x + r.up_len ≡ length z + 1) where
      -- the slot of the bytes that are whole now
      abbrev slot_here : Option ℕ
      slot_here = slot_of r (drop x more) (slot_before r (slots_at r z x))

      slot_is : slot_of r (window r more x) (slot_before r (slots_at r more x)) ≡ slot_here
      slot_is = ap₂ (λ (w : List Item) (s : Option ℕ). slot_of r w s) (whole x e)
          (same_before z (b ∷ []) x l (omega arith))

      pub one_more_slot : slot_before r (slots_at r more (length z + 1)) ≡ slot_here
      one_more_slot = before_at more (length z + 1) (suc x) (omega arith) ∙ latest_is x ∙ slot_is

      pub one_more_packet : user_packets r more ≡ user_packets r z ++ with_slot (drop x more) slot_here
      one_more_packet =
          let n : length more + 1 - r.up_len ≡ suc x = omega (arith, size) in
          let m : length z + 1 - r.up_len ≡ x = omega arith in
          ap (packets_at r more) n
          ∙ packets_are x
          ∙ ap₂ (λ (w : List Item) (s : Option ℕ). packets_at r more x ++ with_slot w s) (whole x e) slot_is
          ∙ ap (λ (p : List UserPacket). p ++ with_slot (drop x more) slot_here)
          (same_packets z (b ∷ []) x (omega arith))
          ∙ sym (ap (λ (k : ℕ). packets_at r z k ++ with_slot (drop x more) slot_here) m)

    -- nothing ends here
    pub record Stays : Type 0 where
      pub slot : slot_before r (slots_at r more (length z + 1)) ≡ None
      pub packets : user_packets r more ≡ user_packets r z

    pub no_end : 1 ≤ r.up_len → ((x : ℕ) → x + r.up_len ≡ length z + 1 → is_one (drop x more) ≡ false) → Stays
    unfolding packets_at
    no_end l h =
        elim (cases_lt (length z + 1) r.up_len) [
          | inl lt ↦
              let n : length more + 1 - r.up_len ≡ 0 = omega (arith, size) in
              let m : length z + 1 - r.up_len ≡ 0 = omega arith in
              record {
                slot = before_none more (length z + 1) lt;
                packets = ap (packets_at r more) n
                    ∙ sym (ap (packets_at r z) m);
              }
          | inr ge ↦
              let x : ℕ = length z + 1 - r.up_len in
              let e : x + r.up_len ≡ length z + 1 = omega arith in
              let none = none_of r (drop x more) (slot_before r (slots_at r z x)) (h x e) in
              record {
                slot = one_more_slot x l e ∙ none;
                packets = one_more_packet x l e ∙ ap (λ (s : Option ℕ). user_packets r z ++ with_slot (drop x more) s)
                    none
                    ∙ append-nil (user_packets r z);
              }
        ]
