-- If nothing is lost, the packets come back; and which slots are due.
use Rattle.std.proofs.Common.{◌≡◌, ◌↔◌, ℕ, ◌+◌, ◌-◌, ◌*◌, ◌<◌, ◌≤◌, ◌&&◌, Bool, true, false, cond, List, refl, sym}
use Rattle.std.proofs.Common.{subst, ap₂, ap, ◌∙◌, arith}
use Rattle.std.specs.Prelude.{nat_le, nat_lt, not}
use Rattle.std.specs.List.{range_with_len, list_all, Contains}
use Rattle.std.proofs.lemmas.List.FromFn.{get_or-range_with_len, length-range_with_len}
use Rattle.ts_packet.specs.Null.{null_packet}
use Rattle.plp_config.specs.Laws.{EpochAlone, ReleasedByFrame}
use Rattle.plp_config.specs.Plps.{spread}
use Rattle.plp_config.specs.SlotTime.{num, den, delay, delay_ticks, slots_by, released_count, IsReleased}
use Rattle.mode_adapt.specs.Blocks.{plp_keeps}
use Rattle.record_laws.specs.Laws.{NoneLost, DueReleased, RecoverAlone}

kept_or : (b : Bool) (p null : List ℕ) → (b ≡ false → p ≡ null) → cond (b && true) p null ≡ p
kept_or true p null h = refl
kept_or false p null h = let e = h refl in cc

pub none_lost : NoneLost
none_lost c plp ticks at k canonical = kept_or (plp_keeps c plp at k) (at k) null_packet canonical

-- which numbers are in a range
in_range : (from count k : ℕ) → Contains (range_with_len from count) k ↔ ((from ≤ k) × (k < from + count))
in_range from count k = (
  (λ m.
      let long = length-range_with_len from count in
      let at = get_or-range_with_len from count m.0 k (omega (arith, m.1, long)) in
      let same : k ≡ from + m.0 = sym m.2 ∙ at in
      (omega (arith, same), omega (arith, same, m.1, long))),
  (λ h.
      let long = length-range_with_len from count in
      let at = get_or-range_with_len from count (k - from) k (omega (arith, h.0, h.1)) in
      (k - from, omega (arith, h.0, h.1, long), at ∙ omega (arith, h.0))),
)

pub due_released : ReleasedByFrame → DueReleased
due_released law c plp first count last slot rules lt e =
    let from : ℕ = slots_by c plp ((first - spread c.plps plp) * c.ticks) in
    let end : ℕ = released_count (num c) (den c plp) (delay c plp) ((first + count) * c.ticks) in
    let given : IsReleased c plp last slot ↔ (slot < end) =
    subst (λ (n : ℕ). IsReleased c plp last slot
    ↔ (slot < released_count (num c) (den c plp) (delay c plp) (n * c.ticks)))
    (sym e) (law c plp last slot rules lt) in (
      (λ m. let r = (in_range from (end - from) slot).0 m in (r.0, given.1 (omega (arith, r.0, r.1)))),
      (λ h. let early = given.0 h.1 in (in_range from (end - from) slot).1 (h.0, omega (arith, h.0, early))),
    )

and_true : (b : Bool) → (b && true) ≡ b
and_true true = refl
and_true false = refl

-- with spread 1
pub recover_alone : EpochAlone → RecoverAlone
recover_alone epoch c plp muted first count alone = record {
  due = ap₂ (λ (s d : ℕ). range_with_len (slots_by c plp ((first - s) * c.ticks))
      (released_count (num c) (den c plp) d ((first + count) * c.ticks) - slots_by c plp ((first - s) * c.ticks))) alone
      (ap (delay_ticks (num c) (den c plp)) (epoch c plp alone));
  there = λ m.
      let test : ℕ → Bool = λ n. nat_le first n && (nat_lt n (first + count) && not (muted n)) in
      let one : m * 1 ≡ m = omega arith in
      ap (λ (s : ℕ). list_all test (range_with_len (m * s) s)) alone ∙ and_true (test (m * 1)) ∙ ap test one;
}
