-- Lists of user packets and searches in them, and which epochs carry a user packet.
use Rattle.std.proofs.Common.{◌≡◌, ℕ, zero, suc, ◌+◌, ◌<◌, ◌≤◌, ◌==◌, ◌||◌, Bool, true, false, List, [], ◌∷◌, ◌++◌}
use Rattle.std.proofs.Common.{length, map, drop, get_or, Option, Some, None, refl, ap, ap₂, sym, arith, inl, inr}
use Rattle.std.proofs.Common.{◌⊎◌, ◌-◌, ◌*◌, ◌&&◌, add-one}
use Rattle.std.specs.List.{AllByRecursion, range_with_len, list_any, find, filter}
use Rattle.std.proofs.lemmas.List.{take_all, take-append-le}
use Rattle.std.proofs.lemmas.Bool.{both_ways, cases_eq, eq-eqb, or_parts, cases_Bool, cond_both, ne_eqb, cases_lt}
use Rattle.std.proofs.lemmas.Bool.{lt-leb, le-ltb}
use Rattle.plp_receiver.specs.Packets.{packet_of, UserPacket}
use Rattle.mode_adapt.specs.UserPackets.{user_packet}
use Rattle.network_laws.proofs.FeedEventLemmas.{OneOf}
use Rattle.std.specs.Prelude.{nat_lt}
use Rattle.std.proofs.Math.Nat.{mul-le-mul_right}
use Rattle.plp_config.specs.Laws.{CountRises}
use Rattle.plp_config.specs.SlotTime.{slot_count, InRange}
use Rattle.mode_adapt.specs.Laws.{SentWithin}
use Rattle.mode_adapt.specs.Queue.{Rates, sent, sent_before}
use Rattle.record_laws.specs.Recover.{is_carried}

-- Ranges and filters.

pub range_all : {X : Type 0} (P : X → Type 0) (f : ℕ → X) (n a : ℕ) → ((k : ℕ) → a ≤ k → k < a + n → P (f k))
    → AllByRecursion P (map f (range_with_len a n))
range_all P f zero a h = tt
range_all P f (suc n) a h = (
  h a (omega arith) (omega arith),
  range_all P f n (a + 1)
      (λ k l m. h k (omega arith) (omega arith)),
)

pub all_in_range : (P : ℕ → Type 0) (n a : ℕ) → ((k : ℕ) → a ≤ k → k < a + n → P k)
    → AllByRecursion P (range_with_len a n)
all_in_range P zero a h = tt
all_in_range P (suc n) a h =
    (h a (omega arith) (omega arith), all_in_range P n (a + 1) (λ k l m. h k (omega arith) (omega arith)))

pub each_in_range : (P : ℕ → Type 0) (n a : ℕ) → AllByRecursion P (range_with_len a n) → (k : ℕ) → a ≤ k
    → k < a + n → P k
each_in_range P zero a h k l m = absurd (omega arith)
each_in_range P (suc n) a h k l m =
    elim (cases_eq k a) [
      | inl e ↦ rw e h.0
      | inr ne ↦ each_in_range P n (a + 1) h.1 k (omega arith) (omega arith)
    ]

pub filter_all : (P : ℕ → Type 0) (p : ℕ → Bool) (xs : List ℕ) → AllByRecursion (λ x. p x ≡ true → P x) xs
    → AllByRecursion P (filter p xs)
filter_all P p [] h = tt
filter_all P p (x ∷ xs) h =
    cond_both {A = List ℕ} (p x) _ _ (AllByRecursion P) (λ e. (h.0 e, filter_all P p xs h.1))
    (λ e. filter_all P p xs h.1)

pub all_filter : (P : ℕ → Type 0) (p : ℕ → Bool) (xs : List ℕ) → AllByRecursion P (filter p xs)
    → AllByRecursion (λ x. p x ≡ true → P x) xs
all_filter P p [] h = tt
all_filter P p (x ∷ xs) h = elim (cases_Bool (p x)) [
  | inl e ↦ let k = rw e at h in (λ t. k.0, all_filter P p xs k.1)
  | inr e ↦ (λ t. absurd (both_ways _ e t), all_filter P p xs (rw e at h))
]

pub none_any : {X : Type 0} (test : X → Bool) (xs : List X) → AllByRecursion (λ x. test x ≡ false) xs
    → list_any test xs ≡ false
none_any test [] h = refl
none_any test (x ∷ xs) h = ap₂ (λ (a b : Bool). a || b) h.0 (none_any test xs h.1)

pub any_none : {X : Type 0} (test : X → Bool) (xs : List X) → list_any test xs ≡ false
    → AllByRecursion (λ x. test x ≡ false) xs
any_none test [] e = tt
any_none test (x ∷ xs) e = let p = or_parts (test x) (list_any test xs) e in (p.0, any_none test xs p.1)

pub all_kept : {X : Type 0} (p : X → Bool) (xs : List X) → AllByRecursion (λ x. p x ≡ true) xs → filter p xs ≡ xs
all_kept p [] h = refl
all_kept p (x ∷ xs) h = rw (h.0, all_kept p xs h.1)

-- One of the user packets has a slot.
abbrev pub Has : ℕ → List UserPacket → Type 0
Has k ups = OneOf (λ (up : UserPacket). up.slot ≡ k) ups

pub has_in_range : (f : ℕ → UserPacket) (n a k : ℕ) → a ≤ k → k < a + n → Has (f k).slot (map f (range_with_len a n))
has_in_range f zero a k l m = absurd (omega arith)
has_in_range f (suc n) a k l m =
    elim (cases_eq k a) [
      | inl e ↦ inl (ap (λ (j : ℕ). (f j).slot) (sym e))
      | inr ne ↦ inr (has_in_range f n (a + 1) k (omega arith) (omega arith))
    ]

-- The first one with a slot has what all have.
pub record Finds (P : UserPacket → Type 0) (k : ℕ) (found : Option UserPacket) : Type 0 where
  pub up : UserPacket
  pub is : found ≡ Some up
  pub slot : up.slot ≡ k
  pub holds : P up

pub finds : (P : UserPacket → Type 0) (k : ℕ) (ups : List UserPacket) → AllByRecursion P ups → Has k ups
    → Finds P k (find (λ up. up.slot == k) ups)
finds P k [] h some = absurd some
finds P k (x ∷ xs) h some = elim (cases_eq x.slot k) [
  | inl e ↦ rw (eq-eqb x.slot k e) (record { up = x; is = refl; slot = e; holds = h.0 })
  | inr ne ↦ rw (ne_eqb x.slot k ne)
      (finds P k xs h.1 (elim some [ inl own ↦ absurd (ne own) | inr more ↦ more ]))
]

pub finds_none : (k : ℕ) (ups : List UserPacket) → AllByRecursion (λ up. (up.slot == k) ≡ false) ups
    → find (λ up. up.slot == k) ups ≡ None
finds_none k [] h = refl
finds_none k (x ∷ xs) h = rw (h.0, finds_none k xs h.1)

-- The packet of a user packet.

behind : (q more : List ℕ) → length q ≡ 188 → get_or q 0 0 ≡ 0x47 → packet_of (drop 1 q ++ more) ≡ q
behind [] more l e = absurd (omega arith)
behind (x ∷ xs) more l e =
    rw (← e, take-append-le 187 xs more (omega arith), take_all 187 xs (omega arith))

pub packet_back : (deletes : Bool) (packet : ℕ → List ℕ) (k : ℕ) → length (packet k) ≡ 188
    → get_or (packet k) 0 0 ≡ 0x47 → packet_of (user_packet deletes packet k) ≡ packet k
packet_back deletes packet k l e = behind (packet k) _ l e

-- ---- what is sent rises

pub before_next : (r : Rates) (keeps : ℕ → Bool) (m : ℕ) → sent_before r keeps (m + 1) ≡ sent r keeps m
before_next r keeps m = ap (sent_before r keeps) (add-one m)

rises_by : SentWithin → (r : Rates) (keeps : ℕ → Bool) → 1 ≤ r.num → (d a : ℕ)
    → sent_before r keeps a ≤ sent_before r keeps (a + d)
rises_by within r keeps some zero a = let e : a + 0 ≡ a = omega arith in let q = ap (sent_before r keeps)
    e in omega arith
rises_by within r keeps some (suc d) a =
    let e : a + suc d ≡ suc (a + d) = omega arith in
    let q = ap (sent_before r keeps) e in
    omega (arith, (within r keeps (a + d) some).0, rises_by within r keeps some d a)

pub before_rises : SentWithin → (r : Rates) (keeps : ℕ → Bool) → 1 ≤ r.num → (a b : ℕ) → a ≤ b
    → sent_before r keeps a ≤ sent_before r keeps b
before_rises within r keeps some a b l = let e : a + (b - a) ≡ b = omega arith in
    rw (← e) (rises_by within r keeps some (b - a) a)

-- ---- an epoch that has nothing of the user packet at a place

abbrev pub Misses : Rates → (ℕ → Bool) → ℕ → ℕ → Type 0
Misses r keeps m place = (sent r keeps m ≤ place) ⊎ (place + r.up_len ≤ sent_before r keeps m)

and_no : (b : Bool) → (b && false) ≡ false
and_no true = refl
and_no false = refl

-- carries none of its bytes
byte_missed : (r : Rates) (keeps : ℕ → Bool) (m place i : ℕ) → Misses r keeps m place → place ≤ i → i < place + r.up_len
    → is_carried r keeps m i ≡ false
byte_missed r keeps m place i (inl before) a b = rw (le-ltb i (sent r keeps m) (omega arith), and_no _)
byte_missed r keeps m place i (inr behind) a b =
    ap (λ (t : Bool). t && nat_lt i (sent r keeps m)) (lt-leb (sent_before r keeps m) i (omega arith))

pub all_missed : (r : Rates) (keeps : ℕ → Bool) (m place : ℕ) → Misses r keeps m place
    → list_any (is_carried r keeps m) (range_with_len place r.up_len) ≡ false
all_missed r keeps m place misses =
    none_any (is_carried r keeps m) (range_with_len place r.up_len)
    (all_in_range (λ (i : ℕ). is_carried r keeps m i ≡ false) r.up_len place
    (λ i a b. byte_missed r keeps m place i misses a b))

-- ---- the epoch in whose range a slot is, by the epochs with which it is over

module _ (rises : CountRises) (num den epoch m k : ℕ) (pos : 0 < num) (inside : InRange num den epoch m k) where
  pub since : (first : ℕ) → slot_count num den ((first - 1) * epoch) ≤ k → first ≤ m
  since first from = elim (cases_lt m first) [
    | inl lt ↦
        let q : m * epoch ≤ (first - 1) * epoch = mul-le-mul_right {m = m} {n = first - 1} epoch (omega arith) in
        absurd (omega (arith, rises num den (m * epoch) ((first - 1) * epoch) pos q))
    | inr ge ↦ ge
  ]

  pub until : (end : ℕ) → k < slot_count num den ((end - 2) * epoch) → m + 2 ≤ end
  until end below = elim (cases_lt (m - 1) (end - 2)) [
    | inl lt ↦ omega arith
    | inr ge ↦
        let q : (end - 2) * epoch ≤ (m - 1) * epoch = mul-le-mul_right {m = end - 2} {n = m - 1} epoch ge in
        absurd (omega (arith, rises num den ((end - 2) * epoch) ((m - 1) * epoch) pos q))
  ]
