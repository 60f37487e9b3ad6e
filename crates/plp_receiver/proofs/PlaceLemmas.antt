-- Where the user packets of a string begin and end, and in which epochs.
use Rattle.std.proofs.Common.{◌≡◌, ℕ, zero, suc, ◌+◌, ◌-◌, ◌<◌, ◌≤◌, List, [], ◌∷◌, ◌++◌, length, take, drop, get_or}
use Rattle.std.proofs.Common.{Option, Some, None, refl, ap, ◌∙◌, sym, subst, arith, inl, inr, append-nil, append_assoc}
use Rattle.std.proofs.Common.{length-append}
use Rattle.std.specs.List.{AllByRecursion}
use Rattle.std.proofs.lemmas.Bool.{cases_lt}
use Rattle.terms.proofs.AllLemmas.{all_append}
use Rattle.plp_receiver.specs.declared.slot_rule.SlotRule.{SlotRule}
use Rattle.plp_receiver.specs.Strings.{Item}
use Rattle.plp_receiver.specs.Packets.{UserPacket, window, first_item, last_item, last_of, no_item, slot_of}
use Rattle.plp_receiver.specs.Packets.{slot_before, slots_at, with_slot, packets_at, user_packets}
use Rattle.plp_receiver.proofs.SlotLemmas.{same_packets}
use Rattle.plp_receiver.specs.SlotsHold.{From, UpTo, Since}

pub all_map : {X : Type 0} (P Q : X → Type 0) (f : (x : X) → P x → Q x) (xs : List X) → AllByRecursion P xs
    → AllByRecursion Q xs
all_map P Q f [] h = tt
all_map P Q f (x ∷ xs) h = (f x h.0, all_map P Q f xs h.1)

-- the user packets that begin from one place on
pub record IsMore (r : SlotRule) (z : List Item) (n j : ℕ) : Type 0 where
  pub more : List UserPacket
  pub packets : packets_at r z (n + j) ≡ packets_at r z n ++ more
  pub all : AllByRecursion (From r z n (n + j)) more

module _ (r : SlotRule) (z : List Item) where
  with_all : (n x end : ℕ) (o : Option ℕ) → n ≤ x → x < end → AllByRecursion (From r z n end)
      (with_slot (window r z x) o)
  with_all n x end None l m = tt
  with_all n x end (Some k) l m = (record { place = x; least = l; below = m; items_are = refl }, tt)

  widen : (n a b : ℕ) → a ≤ b → (up : UserPacket) → From r z n a up → From r z n b up
  widen n a b l up f = let m = f.below in
      record { place = f.place; least = f.least; below = omega (arith, m); items_are = f.items_are }

  packets_suc : (x : ℕ) → packets_at r z (suc x) ≡ packets_at r z x ++ with_slot (window r z x)
      (slot_of r (window r z x) (slot_before r (slots_at r z x)))
  unfolding packets_at
  packets_suc x = refl

  pub more_at : (n j : ℕ) → IsMore r z n j
  more_at n zero = record {
    more = [];
    packets = let e : n + 0 ≡ n = omega arith in ap (packets_at r z) e ∙ sym (append-nil (packets_at r z n));
    all = tt;
  }
  more_at n (suc j) =
      let m = more_at n j in
      let e : n + suc j ≡ suc (n + j) = omega arith in
      let last : List UserPacket =
      with_slot (window r z (n + j)) (slot_of r (window r z (n + j)) (slot_before r (slots_at r z (n + j)))) in
      record {
        more = m.more ++ last;
        packets =
            ap (packets_at r z) e
            ∙ packets_suc (n + j)
            ∙ ap (λ (l : List UserPacket). l ++ last) m.packets
            ∙ append_assoc (packets_at r z n) m.more last;
        all =
            all_append (From r z n (n + suc j)) m.more last
            (all_map (From r z n (n + j)) (From r z n (n + suc j)) (widen n (n + j) (n + suc j) (omega arith))
            m.more m.all)
            (with_all n (n + j) (n + suc j) _ (omega arith) (omega arith));
      }

pub first_is : (z : List Item) (x k : ℕ) → first_item (take (suc k) (drop x z)) ≡ get_or z x no_item
first_is [] zero k = refl
first_is [] (suc x) k = refl
first_is (y ∷ z) zero k = refl
first_is (y ∷ z) (suc x) k = first_is z x k

pub last_is : (d : Item) (z : List Item) (x k : ℕ) → x + k < length z → last_of d (take (suc k) (drop x z))
    ≡ get_or z (x + k) no_item
last_is d [] x k l = absurd (omega arith)
last_is d (y ∷ z) (suc x) k l = let e : suc x + k ≡ suc (x + k) = omega arith in last_is d z x k (omega arith)
    ∙ sym (ap (λ (n : ℕ). get_or (y ∷ z) n no_item) e)
last_is d (y ∷ z) zero zero l = refl
last_is d (y ∷ z) zero (suc k) l =
    let e : zero + suc k ≡ suc (zero + k) = omega arith in last_is y z zero k (omega arith)
    ∙ sym (ap (λ (n : ℕ). get_or (y ∷ z) n no_item) e)

up_to : (epoch : ℕ) (z : List Item) (i : ℕ) → UpTo epoch z → (get_or z i no_item).epoch ≤ epoch
up_to epoch [] i h = omega arith
up_to epoch (x ∷ z) zero h = h.0
up_to epoch (x ∷ z) (suc i) h = up_to epoch z i h.1

since : (epoch : ℕ) (z y : List Item) (i : ℕ) → length z ≤ i → i < length z + length y → Since epoch y
    → epoch ≤ (get_or (z ++ y) i no_item).epoch
since epoch (x ∷ z) y zero l m h = absurd (omega arith)
since epoch (x ∷ z) y (suc i) l m h = since epoch z y i (omega arith) (omega arith) h
since epoch [] [] i l m h = absurd (omega arith)
since epoch [] (x ∷ y) zero l m h = h.0
since epoch [] (x ∷ y) (suc i) l m h = since epoch [] y i (omega arith) (omega arith) h.1

len_suc : (n : ℕ) → 1 ≤ n → n ≡ suc (n - 1)
len_suc n l = omega arith

-- a user packet begins in an epoch of the string
pub begins_up_to : (r : SlotRule) (z : List Item) (n end epoch : ℕ) (up : UserPacket) → 1 ≤ r.up_len → UpTo epoch z
    → From r z n end up → (first_item up.items).epoch ≤ epoch
begins_up_to r z n end epoch up l h f = grind (arith, len_suc, first_is, up_to)

-- one that ends behind the first items ends in an epoch of the others
pub ends_since : (r : SlotRule) (z y : List Item) (n end epoch : ℕ) (up : UserPacket) → 1 ≤ r.up_len
    → length z + 1 ≤ n + r.up_len
    → end + r.up_len ≤ length z + length y + 1 → Since epoch y
    → From r (z ++ y) n end up → epoch ≤ (last_item up.items).epoch
ends_since r z y n end epoch up l a b h f = grind (arith, length-append, len_suc, last_is, since)

packets_zero : (r : SlotRule) (w : List Item) → packets_at r w 0 ≡ []
unfolding packets_at
packets_zero r w = refl

same_front : (r : SlotRule) (z y : List Item) → packets_at r (z ++ y) (length z + 1 - r.up_len) ≡ user_packets r z
same_front r z y =
    elim (cases_lt (length z + 1) r.up_len) [
      | inl lt ↦ let e : length z + 1 - r.up_len ≡ 0 = omega arith in ap (packets_at r (z ++ y)) e
          ∙ packets_zero r (z ++ y)
          ∙ sym (ap (packets_at r z) e ∙ packets_zero r z)
      | inr ge ↦ same_packets r z y (length z + 1 - r.up_len) (omega arith)
    ]

-- a longer string has the user packets of its front, and then others
pub record IsLonger (r : SlotRule) (z y : List Item) (epoch : ℕ) : Type 0 where
  pub more : List UserPacket
  pub packets : user_packets r (z ++ y) ≡ user_packets r z ++ more
  pub all : AllByRecursion (λ (up : UserPacket). epoch ≤ (last_item up.items).epoch) more

pub longer : (r : SlotRule) (z y : List Item) (epoch : ℕ) → 1 ≤ r.up_len → Since epoch y → IsLonger r z y epoch
longer r z y epoch l h =
    elim (cases_lt (length z + length y + 1) r.up_len) [
      | inl lt ↦
          let e : length (z ++ y) + 1 - r.up_len ≡ 0 = omega (arith, length-append z y) in
          let f : length z + 1 - r.up_len ≡ 0 = omega arith in
          record {
            more = [];
            packets = ap (packets_at r (z ++ y)) e ∙ packets_zero r (z ++ y)
                ∙ sym (append-nil _ ∙ ap (packets_at r z) f ∙ packets_zero r z);
            all = tt;
          }
      | inr ge ↦
          let n : ℕ = length z + 1 - r.up_len in
          let j : ℕ = length z + length y + 1 - r.up_len - n in
          let e : length (z ++ y) + 1 - r.up_len ≡ n + j = omega (arith, length-append z y) in
          let m = more_at r (z ++ y) n j in
          record {
            more = m.more;
            packets = ap (packets_at r (z ++ y)) e ∙ m.packets ∙ ap (λ (l : List UserPacket). l ++ m.more)
                (same_front r z y);
            all = all_map (From r (z ++ y) n (n + j)) (λ (up : UserPacket). epoch ≤ (last_item up.items).epoch)
                (λ up f. ends_since r z y n (n + j) epoch up l (omega arith) (omega arith) h f) m.more m.all;
          }
    ]

-- those of a string
pub record IsAll (r : SlotRule) (z : List Item) : Type 0 where
  pub n : ℕ
  pub all : AllByRecursion (From r z 0 n) (user_packets r z)

pub all_of : (r : SlotRule) (z : List Item) → IsAll r z
all_of r z =
    let n : ℕ = length z + 1 - r.up_len in
    let m = more_at r z 0 n in
    let e : 0 + n ≡ n = omega arith in
    let p : user_packets r z ≡ m.more = sym (ap (packets_at r z) e) ∙ m.packets
    ∙ ap (λ (l : List UserPacket). l ++ m.more)
    (packets_zero r z) in
    record { n = 0 + n; all = subst (AllByRecursion (From r z 0 (0 + n))) (sym p) m.all }
