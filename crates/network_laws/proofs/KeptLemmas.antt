-- The kept slots by their number, and the bytes of the string by theirs.
use Rattle.std.specs.Prelude.{◌≡◌, ℕ, ◌+◌, ◌*◌, ◌<◌, Bool, List, length, get_or, if◌then◌else◌}
use Rattle.mode_adapt.specs.UserPackets.{keeps_of, user_packet, up_string}
use Rattle.null_delete.specs.Deletion.{is_kept, dnp, kept_slots}
use Rattle.plp_receiver.specs.declared.slot_rule.SlotRule.{SlotRule}
use Rattle.network_laws.proofs.RegularLemmas.{Follow}
use Rattle.std.proofs.Common.{◌≡◌, ℕ, zero, suc, ◌+◌, ◌-◌, ◌*◌, ◌<◌, ◌≤◌, Bool, true, false, List, [], ◌∷◌, ◌++◌}
use Rattle.std.proofs.Common.{length-append, length, get_or, refl, ap, ◌∙◌, sym, arith, inl, inr, cond, append_assoc}
use Rattle.std.specs.List.{range_with_len, filter, flat_map}
use Rattle.std.proofs.lemmas.List.{get_or_append_left, get_or-append_right}
use Rattle.std.proofs.lemmas.Bool.{cases_eq, cases_Bool}
use Rattle.null_delete.specs.Laws.{NoneKept, NextKept, WithoutDeletion}
use Rattle.std.proofs.lemmas.Grind.{flat_map-append}
use Rattle.std.proofs.lemmas.List.Elements.{filter-append}
use Rattle.terms.proofs.RangeLemmas.{range_append}

abbrev pub kept_slot : (ℕ → Bool) → ℕ → ℕ → ℕ
kept_slot keeps end n = get_or (kept_slots keeps end) n 0

-- Each kept slot below an end is the one before plus 1 plus its own dnp.
abbrev pub KeptFollow : Type 0
KeptFollow = (r : SlotRule) (nulls : ℕ → Bool) (end : ℕ)
    → Follow r (kept_slot (is_kept r.deletes nulls) end)
    (λ n. dnp (is_kept r.deletes nulls) (kept_slot (is_kept r.deletes nulls) end n))
    (length (kept_slots (is_kept r.deletes nulls) end))

-- If each user packet has so many bytes, the string has so many for each kept slot, and user packet n stands at len *
-- n.
pub record IsEven (deletes : Bool) (at : ℕ → List ℕ) (len end : ℕ) : Type 0 where
  pub size : length (up_string deletes at end) ≡ len * length (kept_slots (keeps_of deletes at) end)
  pub byte : (n j : ℕ) → n < length (kept_slots (keeps_of deletes at) end) → j < len
      → get_or (up_string deletes at end) (len * n + j) 0
      ≡ get_or (user_packet deletes at (kept_slot (keeps_of deletes at) end n)) j 0

module _ (keeps : ℕ → Bool) where
  abbrev kept : ℕ → ℕ → List ℕ
  kept a len = filter keeps (range_with_len a len)

  abbrev nth : ℕ → ℕ → ℕ → ℕ
  nth a len n = get_or (kept a len) n 0

  pub record IsFirst (a slot : ℕ) : Type 0 where
    pub from : a ≤ slot
    pub none : NoneKept keeps a slot
    pub is : keeps slot ≡ true

  wider : (a slot : ℕ) → keeps a ≡ false → IsFirst (a + 1) slot → IsFirst a slot
  wider a slot e f = record {
    from = omega arith;
    none = λ j l m. elim (cases_eq j a) [ inl s ↦ ap keeps s ∙ e | inr ne ↦ f.none j (omega arith) m ];
    is = f.is;
  }

  first_of : (len a : ℕ) → 1 ≤ length (kept a len) → IsFirst a (nth a len 0)
  first_of zero a l = absurd (omega arith)
  first_of (suc len) a l = elim (cases_Bool (keeps a)) [
    | inl e ↦ rw e (record { from = omega arith; none = λ j x y. absurd (omega arith); is = e })
    | inr e ↦ rw e (wider a (nth (a + 1) len 0) e (first_of len (a + 1) (rw e at l)))
  ]

  pub record Steps (i k : ℕ) : Type 0 where
    pub is : keeps i ≡ true
    pub rises : i < k
    pub none : NoneKept keeps (i + 1) k

  pub steps : (len a n : ℕ) → suc n < length (kept a len) → Steps (nth a len n) (nth a len (suc n))
  steps zero a n l = absurd (omega arith)
  steps (suc len) a zero l = elim (cases_Bool (keeps a)) [
    | inl e ↦
        let h = rw e at l in
        let f = first_of len (a + 1) (omega arith) in
        rw e (record { is = e; rises = omega arith; none = f.none })
    | inr e ↦ rw e (steps len (a + 1) 0 (rw e at l))
  ]
  steps (suc len) a (suc n) l = elim (cases_Bool (keeps a)) [
    | inl e ↦ let h = rw e at l in rw e (steps len (a + 1) n (omega arith))
    | inr e ↦ rw e (steps len (a + 1) (suc n) (rw e at l))
  ]

pub kept_follow : NextKept → WithoutDeletion → KeptFollow
kept_follow next without r nulls end n l = go r.deletes refl
  where
    keeps : ℕ → Bool
    keeps = is_kept r.deletes nulls

    s : Steps keeps (kept_slot keeps end n) (kept_slot keeps end (suc n))
    s = steps keeps end 0 n l

    step : kept_slot keeps end (suc n) ≡ kept_slot keeps end n + 1 + dnp keeps (kept_slot keeps end (suc n))
    step = next keeps (kept_slot keeps end n) (kept_slot keeps end (suc n)) s.is s.rises s.none

    go : (b : Bool) → r.deletes ≡ b → kept_slot keeps end (suc n) ≡ kept_slot keeps end n + 1
        + (if b then dnp keeps (kept_slot keeps end (suc n)) else 0)
    go true e = step
    go false e =
        let none : dnp keeps (kept_slot keeps end (suc n)) ≡ 0 =
        ap (λ (b : Bool). dnp (is_kept b nulls) (kept_slot keeps end (suc n))) e
        ∙ (without nulls 0 (kept_slot keeps end (suc n))).1 in
        omega (arith, step, none)

-- The number of a kept slot.

module _ (keeps : ℕ → Bool) where
  pub record HasNumber (a len n slot : ℕ) : Type 0 where
    pub from : a ≤ slot
    pub below : slot < a + len
    pub count : length (filter keeps (range_with_len a (slot - a))) ≡ n

  -- one more slot in front
  more_slot : (len a n slot : ℕ) → HasNumber (a + 1) len n slot
      → HasNumber a (suc len) (cond (keeps a) (suc n) n) slot
  more_slot len a n slot f =
      let d : slot - a ≡ suc (slot - (a + 1)) = omega arith in
      record { from = omega arith; below = omega arith; count = rw d (go (keeps a)) }
    where
      go : (b : Bool) → length
          (cond b (a ∷ filter keeps (range_with_len (a + 1) (slot - (a + 1))))
          (filter keeps (range_with_len (a + 1) (slot - (a + 1))))) ≡ cond b (suc n) n
      go true = ap suc f.count
      go false = f.count

  number : (len a n : ℕ) → n < length (filter keeps (range_with_len a len))
      → HasNumber a len n (get_or (filter keeps (range_with_len a len)) n 0)
  number zero a n l = absurd (omega arith)
  number (suc len) a zero l = elim (cases_Bool (keeps a)) [
    | inl e ↦
        let d : a - a ≡ 0 = omega arith in
        rw e (record { from = omega arith; below = omega arith; count = rw d refl })
    | inr e ↦ rw e (rw e at (more_slot len a 0 _ (number len (a + 1) 0 (rw e at l))))
  ]
  number (suc len) a (suc n) l = elim (cases_Bool (keeps a)) [
    | inl e ↦
        let h = rw e at l in
        rw e (rw e at (more_slot len a n _ (number len (a + 1) n (omega arith))))
    | inr e ↦ rw e (rw e at (more_slot len a (suc n) _ (number len (a + 1) (suc n) (rw e at l))))
  ]

-- kept slot n has n kept slots before it, so its user packet stands at up_len * n
pub kept_number : (keeps : ℕ → Bool) (end n : ℕ) → n < length (kept_slots keeps end) → (kept_slot keeps end n < end)
    × (length (kept_slots keeps (kept_slot keeps end n)) ≡ n)
kept_number keeps end n l =
    let f = number keeps end 0 n l in
    let d : kept_slot keeps end n - 0 ≡ kept_slot keeps end n = omega arith in
    (omega arith, sym (ap (λ (k : ℕ). length (filter keeps (range_with_len 0 k))) d) ∙ f.count)

-- The string.

flat_size : (f : ℕ → List ℕ) (len : ℕ) → ((k : ℕ) → length (f k) ≡ len) → (ks : List ℕ)
    → length (flat_map f ks) ≡ len * length ks
flat_size f len each [] = omega arith
flat_size f len each (k ∷ ks) =
    let s : len * suc (length ks) ≡ len * length ks + len = omega arith in
    length-append (f k) (flat_map f ks) ∙ omega (arith, each k, flat_size f len each ks, s)

flat_byte : (f : ℕ → List ℕ) (len : ℕ) → ((k : ℕ) → length (f k) ≡ len) → (ks : List ℕ) (n j : ℕ) → n < length ks
    → j < len → get_or (flat_map f ks) (len * n + j) 0 ≡ get_or (f (get_or ks n 0)) j 0
flat_byte f len each [] n j l m = absurd (omega arith)
flat_byte f len each (k ∷ ks) zero j l m =
    let s : len * 0 + j ≡ j = omega arith in
    ap (λ (i : ℕ). get_or (f k ++ flat_map f ks) i 0) s ∙ get_or_append_left (f k) (flat_map f ks) 0
    j (omega (arith, each k))
flat_byte f len each (k ∷ ks) (suc n) j l m =
    let s : len * suc n + j ≡ len + (len * n + j) = omega arith in
    let d : len + (len * n + j) - len ≡ len * n + j = omega arith in
    ap (λ (i : ℕ). get_or (f k ++ flat_map f ks) i 0) s
    ∙ get_or-append_right (f k) (flat_map f ks) len (len + (len * n + j)) 0 (each k) (omega arith)
    ∙ ap (λ (i : ℕ). get_or (flat_map f ks) i 0) d
    ∙ flat_byte f len each ks n j (omega arith) m

pub string_even : (deletes : Bool) (at : ℕ → List ℕ) (len end : ℕ)
    → ((k : ℕ) → length (user_packet deletes at k) ≡ len) → IsEven deletes at len end
string_even deletes at len end each = record {
  size = flat_size (user_packet deletes at) len each (kept_slots (keeps_of deletes at) end);
  byte = flat_byte (user_packet deletes at) len each (kept_slots (keeps_of deletes at) end);
}

filter_passes : (p : ℕ → Bool) (xs : List ℕ) (n : ℕ) → n < length (filter p xs) → p (get_or (filter p xs) n 0) ≡ true
filter_passes p [] n l = absurd (omega arith)
filter_passes p (x ∷ xs) zero l = elim (cases_Bool (p x)) [
  | inl e ↦ rw e e
  | inr e ↦ rw e (filter_passes p xs 0 (rw e at l))
]
filter_passes p (x ∷ xs) (suc n) l = elim (cases_Bool (p x)) [
  | inl e ↦ let h = rw e at l in rw e (filter_passes p xs n (omega arith))
  | inr e ↦ rw e (filter_passes p xs (suc n) (rw e at l))
]

module _ (keeps : ℕ → Bool) where
  pub is_kept_slot : (end n : ℕ) → n < length (kept_slots keeps end) → keeps (kept_slot keeps end n) ≡ true
  is_kept_slot end n l = filter_passes keeps (range_with_len 0 end) n l

  pub record IsFront (e end : ℕ) : Type 0 where
    pub more : List ℕ
    pub front : kept_slots keeps end ≡ kept_slots keeps e ++ more

  pub kept_front : (e end : ℕ) → e ≤ end → IsFront e end
  kept_front e end l = record {
    more = filter keeps (range_with_len e (end - e));
    front =
        let s : end ≡ e + (end - e) = omega arith in
        let z : 0 + e ≡ e = omega arith in
        ap (kept_slots keeps) s
        ∙ ap (filter keeps) (range_append 0 e (end - e))
        ∙ filter-append keeps (range_with_len 0 e) (range_with_len (0 + e) (end - e))
        ∙ ap (λ (k : ℕ). kept_slots keeps e ++ filter keeps (range_with_len k (end - e))) z;
  }

  pub same_slot : (e end n : ℕ) → e ≤ end → n < length (kept_slots keeps e)
      → kept_slot keeps end n ≡ kept_slot keeps e n
  same_slot e end n l m =
      let f = kept_front e end l in
      ap (λ (s : List ℕ). get_or s n 0) f.front ∙ get_or_append_left (kept_slots keeps e) f.more 0 n m

  pub kept_least : (e end : ℕ) → e ≤ end → length (kept_slots keeps e) ≤ length (kept_slots keeps end)
  kept_least e end l =
      let f = kept_front e end l in
      let n = ap length f.front ∙ length-append (kept_slots keeps e) f.more in
      omega arith

  -- a kept slot stands behind the kept slots before it
  own_front : (end k : ℕ) → keeps k ≡ true → k < end → (rest : List ℕ)
      × (kept_slots keeps end ≡ kept_slots keeps k ++ k ∷ rest)
  own_front end k on l =
      let f = kept_front (k + 1) end (omega arith) in
      let z : 0 + k ≡ k = omega arith in
      let one : filter keeps (range_with_len (0 + k) 1) ≡ k ∷ [] =
      ap (λ (j : ℕ). filter keeps (range_with_len j 1)) z ∙ ap (λ (t : Bool). cond {A = List ℕ} t (k ∷ []) []) on in
      let own : kept_slots keeps (k + 1) ≡ kept_slots keeps k ++ k ∷ [] =
      rw (range_append 0 k 1, filter-append keeps (range_with_len 0 k) (range_with_len (0 + k) 1), one) in
      (f.more, f.front ∙ ap (λ (ks : List ℕ). ks ++ f.more) own ∙ append_assoc (kept_slots keeps k) (k ∷ []) f.more)

  -- a kept slot is the one of its number
  pub own_number : (end k : ℕ) → keeps k ≡ true → k < end
      → (length (kept_slots keeps k) < length (kept_slots keeps end))
      × (kept_slot keeps end (length (kept_slots keeps k)) ≡ k)
  own_number end k on l =
      let f = own_front end k on l in
      let n = ap length f.1 ∙ length-append (kept_slots keeps k) (k ∷ f.0) in
      let z : length (kept_slots keeps k) - length (kept_slots keeps k) ≡ 0 = omega arith in (
        omega arith,
        ap (λ (s : List ℕ). get_or s (length (kept_slots keeps k)) 0) f.1
            ∙ get_or-append_right (kept_slots keeps k) (k ∷ f.0) (length (kept_slots keeps k))
            (length (kept_slots keeps k)) 0 refl (omega arith)
            ∙ ap (λ (i : ℕ). get_or (k ∷ f.0) i 0) z,
      )

-- the bytes of the string are those of the string of more slots
pub same_byte : (deletes : Bool) (at : ℕ → List ℕ) (e end i : ℕ) → e ≤ end → i < length (up_string deletes at e)
    → get_or (up_string deletes at end) i 0 ≡ get_or (up_string deletes at e) i 0
same_byte deletes at e end i l m =
    let f = kept_front (keeps_of deletes at) e end l in
    ap (λ (s : List ℕ). get_or (flat_map (user_packet deletes at) s) i 0) f.front
    ∙ ap (λ (s : List ℕ). get_or s i 0) (flat_map-append (user_packet deletes at) (kept_slots (keeps_of deletes at) e)
    f.more)
    ∙ get_or_append_left (up_string deletes at e) (flat_map (user_packet deletes at) f.more) 0 i m
