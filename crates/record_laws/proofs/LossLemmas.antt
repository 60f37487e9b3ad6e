-- What is lost of the narrow network, if frames 3 and 4 are muted.
use Rattle.std.proofs.Common.{inl, inr, ◌⊎◌, lit≤, ◌≡◌, ℕ, ◌+◌, ◌*◌, ◌<◌, ◌≤◌, Bool, true, false, List, [], ◌∷◌}
use Rattle.std.proofs.Common.{length, refl, ap, ap₂, ◌∙◌, arith, lit<}
use Rattle.std.specs.Prelude.{not, cond, nat_le, nat_lt, ◌&&◌}
use Rattle.std.specs.List.{range_with_len, list_any}
use Rattle.std.proofs.Math.Bool.{or-true}
use Rattle.std.proofs.lemmas.Bool.{cases_lt}
use Rattle.std.proofs.lemmas.Bool.Decides.{nat_tests}
use Rattle.terms.proofs.ListLemmas.{none_in, one_in}
use Rattle.plp_config.specs.Capacity.{block_bytes, field_bytes, up_bytes, capacity}
use Rattle.plp_config.specs.SlotTime.{num, den, slot_count}
use Rattle.ts_packet.specs.Null.{null_packet}
use Rattle.null_delete.specs.Deletion.{packet_at, kept_slots}
use Rattle.mode_adapt.specs.Queue.{Rates, sent}
use Rattle.mode_adapt.specs.UserPackets.{keeps_of}
use Rattle.mode_adapt.specs.Blocks.{rates_of}
use Rattle.record_laws.specs.Recover.{is_touched}
use Rattle.record_laws.specs.Networks.{narrow_network, data_packet, data_packets}
use Rattle.record_laws.specs.Counted.{CountedLoss, narrow_recovered}
use Rattle.record_laws.proofs.CountedLemmas.{data_at, data_kept, kept_count, sent_is}

abbrev narrow_rates : Rates
narrow_rates = rates_of narrow_network 0 100000

abbrev narrow_keeps : ℕ → Bool
narrow_keeps = keeps_of true (packet_at (data_packets 110))

narrow_slots : (i : ℕ) → i ≤ 4 → slot_count narrow_rates.num narrow_rates.den (i * 100000) ≤ 110
unfolding num den
narrow_slots i le = omega (arith, le)

narrow_sent2 : sent narrow_rates narrow_keeps 2 ≡ 5051
unfolding num den up_bytes capacity field_bytes block_bytes
narrow_sent2 = sent_is narrow_rates true 110 2 (λ i le. narrow_slots i (omega (arith, le)))

narrow_sent3 : sent narrow_rates narrow_keeps 3 ≡ 7658
unfolding num den up_bytes capacity field_bytes block_bytes
narrow_sent3 = sent_is narrow_rates true 110 3 (λ i le. narrow_slots i (omega (arith, le)))

narrow_sent4 : sent narrow_rates narrow_keeps 4 ≡ 10265
unfolding num den up_bytes capacity field_bytes block_bytes
narrow_sent4 = sent_is narrow_rates true 110 4 narrow_slots

-- whether two frames that carry the bytes from a, b and c on touch a user packet
abbrev touches : ℕ → ℕ → ℕ → ℕ → ℕ → Bool
touches len a b c place = list_any (λ (x : ℕ × ℕ). list_any (λ i. nat_le x.0 i && nat_lt i x.1)
    (range_with_len place len))
    ((a, b) ∷ (b, c) ∷ [])

touched_by : (r : Rates) (keeps : ℕ → Bool) (k p a b c : ℕ) → length (kept_slots keeps k) ≡ p → sent r keeps 2 ≡ a
    → sent r keeps 3 ≡ b → sent r keeps 4 ≡ c
    → is_touched r keeps (3 ∷ 4 ∷ []) k ≡ touches r.up_len a b c (r.up_len * p)
touched_by r keeps k p a b c place first second third =
    ap (λ (p : ℕ). touches r.up_len (sent r keeps 2) (sent r keeps 3) (sent r keeps 4) (r.up_len * p)) place
    ∙ ap (λ (a : ℕ). touches r.up_len a (sent r keeps 3) (sent r keeps 4) (r.up_len * p)) first
    ∙ ap (λ (b : ℕ). touches r.up_len a b (sent r keeps 4) (r.up_len * p)) second
    ∙ ap (λ (c : ℕ). touches r.up_len a b c (r.up_len * p)) third

narrow_touched : (k : ℕ) → k ≤ 110 → is_touched narrow_rates narrow_keeps (3 ∷ 4 ∷ []) k
    ≡ touches narrow_rates.up_len 5051 7658 10265 (narrow_rates.up_len * k)
narrow_touched k le =
    touched_by narrow_rates narrow_keeps k k 5051 7658 10265 (kept_count true 110 k le) narrow_sent2
    narrow_sent3 narrow_sent4

abbrev given_back : Bool → Bool → List ℕ → List ℕ
given_back kept touched packet = cond (kept && not touched) packet null_packet

narrow_is : (k : ℕ) (touched : Bool) → k < 110 → touches narrow_rates.up_len 5051 7658 10265
    (narrow_rates.up_len * k) ≡ touched
    → narrow_recovered k ≡ given_back true touched data_packet
narrow_is k touched lt e =
    ap (λ (t : Bool). given_back (narrow_keeps k) t (packet_at (data_packets 110) k))
    (narrow_touched k (omega (arith, lt)) ∙ e)
    ∙ ap₂ (λ (b : Bool) (p : List ℕ). given_back b touched p) (data_kept true 110 k lt) (data_at 110 k lt)

-- the bytes from a up to b
abbrev inside : ℕ → ℕ → ℕ → Bool
inside a b i = nat_le a i && nat_lt i b

before_all : (a b i : ℕ) → i < a → inside a b i ≡ false
before_all a b i lt = grind (arith, nat_tests)

behind_all : (a b i : ℕ) → b ≤ i → inside a b i ≡ false
behind_all a b i le = grind (arith, nat_tests)

is_inside : (a b i : ℕ) → a ≤ i → i < b → inside a b i ≡ true
is_inside a b i le lt = grind (arith, nat_tests)

-- a user packet before the bytes from a up to c, or behind them
touches_none : (len a b c place : ℕ) → a ≤ b → b ≤ c → (place + len ≤ a) ⊎ (c ≤ place) → touches len a b c place ≡ false
touches_none len a b c place first second (inl le) =
    rw (
      none_in (inside a b) place len (λ i ge lt. before_all a b i (omega (arith, le, lt))),
      none_in (inside b c) place len (λ i ge lt. before_all b c i (omega (arith, le, lt, first))),
    ) refl
touches_none len a b c place first second (inr le) =
    rw (
      none_in (inside a b) place len (λ i ge lt. behind_all a b i (omega (arith, le, ge, second))),
      none_in (inside b c) place len (λ i ge lt. behind_all b c i (omega (arith, le, ge))),
    ) refl

-- or one of whose bytes is one of them
touches_one : (len a b c place i : ℕ) → a ≤ i → i < c → place ≤ i → i < place + len → touches len a b c place ≡ true
touches_one len a b c place i low high from to = elim (cases_lt i b) [
  | inl lt ↦ rw (one_in (inside a b) place len i from to (is_inside a b i low lt)) refl
  | inr le ↦ rw (one_in (inside b c) place len i from to (is_inside b c i le high))
      (or-true (list_any (inside a b) (range_with_len place len)))
]

abbrev narrow_touches : ℕ → Bool
narrow_touches k = touches narrow_rates.up_len 5051 7658 10265 (narrow_rates.up_len * k)

narrow_kept : (k : ℕ) → (k < 26) ⊎ (54 < k) → narrow_touches k ≡ false
unfolding up_bytes
narrow_kept k (inl lt) = touches_none 188 5051 7658 10265 (188 * k) (lit≤ tt) (lit≤ tt) (inl (omega (arith, lt)))
narrow_kept k (inr lt) = touches_none 188 5051 7658 10265 (188 * k) (lit≤ tt) (lit≤ tt) (inr (omega (arith, lt)))

narrow_lost : (k : ℕ) → 26 ≤ k → k ≤ 54 → narrow_touches k ≡ true
unfolding up_bytes
narrow_lost k le most = elim (cases_lt (188 * k) 5051) [
  | inl lt ↦ touches_one 188 5051 7658 10265 (188 * k) 5051 (lit≤ tt) (lit< tt) (omega (arith, lt)) (omega (arith, le))
  | inr ge ↦ touches_one 188 5051 7658 10265 (188 * k) (188 * k) ge (omega (arith, most)) (omega arith) (omega arith)
]

pub counted_loss : CountedLoss
counted_loss = record {
  kept = λ k lt apart. narrow_is k false lt (narrow_kept k apart);
  lost = λ k le most. narrow_is k true (omega (arith, most)) (narrow_lost k le most);
}
