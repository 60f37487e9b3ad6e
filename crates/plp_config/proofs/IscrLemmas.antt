-- The slot that an ISCR names is found by its number, and not by going through the range.
use Rattle.std.proofs.Common.{◌≡◌, ◌≢◌, ℕ, zero, suc, ◌+◌, ◌-◌, ◌*◌, ◌%◌, ◌^◌, ◌<◌, ◌≤◌, ◌==◌, Bool, true, false}
use Rattle.std.proofs.Common.{Option, Some}
use Rattle.std.proofs.Common.{None, refl, ap, ◌∙◌, sym, arith, cond}
use Rattle.std.specs.List.{range_with_len, find}
use Rattle.std.proofs.lemmas.Bool.{both_ways, false_from_ne_true, eqb-true}
use Rattle.std.proofs.Common.{eq-eqb}
use Rattle.std.proofs.Math.Nat.{mul-le-mul_right}
use Rattle.plp_config.specs.SlotTime.{slot_start, slot_count, iscr_slot, tick_of_iscr}
use Rattle.std.specs.Int.{div_ceil}
use Rattle.plp_config.specs.Laws.{CountRises, IscrFindsSlot}
use Rattle.plp_config.specs.SlotTimes.{AreSlotTimes, slot_of_iscr, over_by}
use Rattle.plp_config.specs.declared.slot_times.SlotTimes.{SlotTimes}

pub find_none : (test : ℕ → Bool) (n a : ℕ) → ((j : ℕ) → a ≤ j → j < a + n → test j ≡ false)
    → find test (range_with_len a n)
    ≡ None
find_none test zero a h = refl
find_none test (suc n) a h =
    ap (λ (b : Bool). cond {A = Option ℕ} b (Some a) (find test (range_with_len (a + 1) n)))
    (h a (omega arith) (omega arith))
    ∙ find_none test n (a + 1) (λ j l m. h j (omega arith) (omega arith))

pub find_one : (test : ℕ → Bool) (k n a : ℕ) → a ≤ k → k < a + n → test k ≡ true
    → ((j : ℕ) → a ≤ j → j < a + n → test j ≡ true → j ≡ k) → find test (range_with_len a n) ≡ Some k
find_one test k zero a l m t h = absurd (omega arith)
find_one test k (suc n) a l m t h =
    go (test a) refl
    (λ ne. find_one test k n (a + 1) (omega (arith, ne)) (omega arith) t (λ j p q. h j (omega arith) (omega arith)))
  where
    go : (b : Bool) → test a ≡ b → (a ≢ k → find test (range_with_len (a + 1) n) ≡ Some k)
        → find test (range_with_len a (suc n))
        ≡ Some k
    go true e rest =
        ap (λ (b : Bool). cond {A = Option ℕ} b (Some a) (find test (range_with_len (a + 1) n))) e
        ∙ ap (λ (j : ℕ). Some j) (h a (omega arith) (omega arith) e)
    go false e rest =
        ap (λ (b : Bool). cond {A = Option ℕ} b (Some a) (find test (range_with_len (a + 1) n))) e
        ∙ rest (λ (q : a ≡ k). both_ways _ (sym (ap test q) ∙ e) t)

-- more slots are over when more epochs have ended
pub overs_rise : CountRises → (r : SlotTimes) (before after first end : ℕ) → AreSlotTimes r → before ≤ after
    → first ≡ over_by r before
    → end ≡ over_by r after → first ≤ end
overs_rise law r before after first end sound le f e =
    let some : 0 < r.num = omega (arith, sound.some, sound.long) in
    let ticks : before * r.epoch ≤ after * r.epoch = mul-le-mul_right {m = before} {n = after} r.epoch le in
    omega (arith, f, e, law r.num r.den (before * r.epoch) (after * r.epoch) some ticks)

pub over_far : (tick den x : ℕ) → tick ≤ 2 ^ 53 → x ≤ tick * den → x ≤ 2 ^ 53 * den
over_far tick den x l m = omega (arith, m, mul-le-mul_right {m = tick} {n = 2 ^ 53} den l)

module _ (law : IscrFindsSlot) (r : SlotTimes) (sound : AreSlotTimes r) (epoch iscr : ℕ) where
  abbrev first : ℕ
  first = slot_count r.num r.den ((epoch - 1) * r.epoch)

  abbrev end : ℕ
  end = slot_count r.num r.den (epoch * r.epoch)

  abbrev test : ℕ → Bool
  test k = slot_start r.num r.den k % 2 ^ 22 == iscr

  only : (j : ℕ) → first ≤ j → j < first + (end - first) → test j ≡ true → j ≡ iscr_slot r.num r.den r.epoch epoch iscr
  only j l m t =
      let e : slot_start r.num r.den j % 2 ^ 22 ≡ iscr = eqb-true (slot_start r.num r.den j % 2 ^ 22) iscr t in
      sym (law r.num r.den r.epoch epoch j sound.some sound.long sound.most (l, omega arith))
      ∙ ap (iscr_slot r.num r.den r.epoch epoch) e

  pub iscr_empty : end ≤ first → None ≡ slot_of_iscr r epoch iscr
  iscr_empty l = sym (find_none test (end - first) first (λ j p q. absurd (omega arith)))

  pub iscr_outside : (k : ℕ) → k ≡ iscr_slot r.num r.den r.epoch epoch iscr → (first ≤ k → k < end → ⊥)
      → None ≡ slot_of_iscr r epoch iscr
  iscr_outside k e h = sym (find_none test (end - first) first (λ j p q. false_from_ne_true _ (λ (t : test j ≡ true).
      let s : j ≡ k = only j p q t ∙ sym e in h (omega (arith, s)) (omega (arith, s)))))

  pub iscr_other : (k : ℕ) → k ≡ iscr_slot r.num r.den r.epoch epoch iscr → slot_start r.num r.den k % 2 ^ 22 ≢ iscr
      → None ≡ slot_of_iscr r epoch iscr
  iscr_other k e h = sym (find_none test (end - first) first (λ j p q. false_from_ne_true _ (λ (t : test j ≡ true).
      let s : j ≡ k = only j p q t ∙ sym e in
      h (ap (λ (i : ℕ). slot_start r.num r.den i % 2 ^ 22) (sym s) ∙ eqb-true (slot_start r.num r.den j % 2 ^ 22)
      iscr t))))

  pub iscr_found : (k : ℕ) → k ≡ iscr_slot r.num r.den r.epoch epoch iscr → first ≤ k → k < end
      → slot_start r.num r.den k % 2 ^ 22 ≡ iscr → Some k ≡ slot_of_iscr r epoch iscr
  iscr_found k e l m h =
      sym (find_one test k (end - first) first l (omega arith) (eq-eqb _ _ h) (λ j p q t. only j p q t ∙ sym e))

pub named_is : (r : SlotTimes) (epoch iscr from slot : ℕ) → from ≡ slot_count r.num r.den ((epoch - 1) * r.epoch)
    → slot ≡ div_ceil (tick_of_iscr (slot_start r.num r.den from) iscr * r.den) r.num
    → slot ≡ iscr_slot r.num r.den r.epoch epoch iscr
named_is r epoch iscr from slot e f = f ∙ ap (λ (a : ℕ). div_ceil (tick_of_iscr (slot_start r.num r.den a) iscr * r.den)
    r.num) e
