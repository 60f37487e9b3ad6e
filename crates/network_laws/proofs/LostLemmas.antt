-- Which of the epochs that are not there carry something of a slot that is due, and Readback of those that end.
use Rattle.std.proofs.Common.{◌≡◌, ◌⊎◌, ℕ, zero, suc, ◌+◌, ◌-◌, ◌*◌, ◌/◌, ◌<◌, ◌≤◌, ◌||◌, Bool, true, false}
use Rattle.std.proofs.Common.{List, length, refl, ap, ◌∙◌, sym, arith, inl, inr}
use Rattle.std.specs.List.{range_with_len, list_any, filter}
use Rattle.std.proofs.lemmas.List.Elements.{filter-append}
use Rattle.std.proofs.lemmas.List.Folds.{list_any-append}
use Rattle.std.proofs.lemmas.Nat.{le-div}
use Rattle.std.proofs.Math.Nat.{mul-le-mul_right, mul_assoc, div-le_self, div-mul-le_self}
use Rattle.plp_config.specs.Capacity.{IsPlan, up_bytes}
use Rattle.plp_config.specs.Plps.{spread}
use Rattle.plp_config.specs.SlotTime.{num, den, slots_by, epoch_ticks}
use Rattle.plp_config.specs.declared.config.Config.{Config}
use Rattle.null_delete.specs.Deletion.{kept_slots}
use Rattle.mode_adapt.specs.Queue.{Rates}
use Rattle.mode_adapt.specs.Blocks.{rates_of, plp_keeps}
use Rattle.plp_receiver.specs.declared.slot_rule.SlotRule.{SlotRule}
use Rattle.plp_receiver.specs.SlotEpochs.{first_slot, string_of, readback}
use Rattle.plp_receiver.specs.Readback.{slot_packet}
use Rattle.plp_receiver.specs.Sound.{IsSound}
use Rattle.plp_receiver.specs.Times.{due_after}
use Rattle.terms.proofs.RangeLemmas.{map_same, range_append}
use Rattle.plp_receiver.proofs.TimeLemmas.{ended_over}
use Rattle.record_laws.specs.Recover.{is_carried, is_touched, recovered, lost_frames}
use Rattle.plp_receiver.specs.Epochs.{slot_rule, epochs_in}
use Rattle.network_laws.specs.ToldEpochs.{IsEpoch, told_epochs, is_lost}
use Rattle.network_laws.specs.RecoverLaws.{LostEnded, ReadbackRecovers}
use Rattle.network_laws.proofs.KeptLemmas.{KeptFollow}
use Rattle.network_laws.proofs.CarriedLemmas.{all_in_range, filter_all, none_any}
use Rattle.network_laws.proofs.RecoverLemmas.{Times, PlanLaws, sound_is, slot_recovers}
use Rattle.std.proofs.lemmas.Bool.{cases_Bool}
use Rattle.network_laws.proofs.CarriedLemmas as C
use Rattle.network_laws.proofs.SentLemmas as S

-- ---- a test that the numbers outside of a range fail

none_there : (test p : ℕ → Bool) (from n : ℕ) → ((m : ℕ) → from ≤ m → m < from + n → test m ≡ false)
    → list_any test (filter p (range_with_len from n)) ≡ false
none_there test p from n h =
    none_any test (filter p (range_with_len from n)) (filter_all (λ (m : ℕ). test m ≡ false) p (range_with_len from n)
    (all_in_range (λ (m : ℕ). p m ≡ true → test m ≡ false) n from (λ m a b on. h m a b)))

or_no : (b : Bool) → (b || false) ≡ b
or_no true = refl
or_no false = refl

only_inside : (test p : ℕ → Bool) (from n more : ℕ) → ((m : ℕ) → m < from → test m ≡ false)
    → ((m : ℕ) → from + n ≤ m → test m ≡ false)
    → list_any test (filter p (range_with_len 0 (from + (n + more)))) ≡ list_any test (filter p (range_with_len from n))
only_inside test p from n more before behind =
    let part : ℕ → ℕ → List ℕ = λ a k. filter p (range_with_len a k) in
    let z : 0 + from ≡ from = omega arith in
    ap (λ (l : List ℕ). list_any test (filter p l)) (range_append 0 from (n + more))
    ∙ ap (list_any test) (filter-append p (range_with_len 0 from) (range_with_len (0 + from) (n + more)))
    ∙ list_any-append test (part 0 from) (part (0 + from) (n + more))
    ∙ ap (λ (t : Bool). t || list_any test (part (0 + from) (n + more)))
    (none_there test p 0 from (λ m a b. before m (omega arith)))
    ∙ ap (λ (a : ℕ). list_any test (part a (n + more))) z
    ∙ ap (λ (l : List ℕ). list_any test (filter p l)) (range_append from n more)
    ∙ ap (list_any test) (filter-append p (range_with_len from n) (range_with_len (from + n) more))
    ∙ list_any-append test (part from n) (part (from + n) more)
    ∙ ap (λ (t : Bool). list_any test (part from n) || t)
    (none_there test p (from + n) more (λ m a b. behind m a)) ∙ or_no (list_any test (part from n))

-- ---- ticks

two_less : (n epoch : ℕ) → (n + 1) * epoch - 3 * epoch ≤ (n - 2) * epoch
two_less zero epoch = omega arith
two_less (suc zero) epoch = omega arith
two_less (suc (suc n)) epoch =
    let f : suc (suc n) - 2 ≡ n = omega arith in
    rw f (omega arith)

-- three epochs before the end of so many frames two epochs fewer had ended, at most
late_tick : (end spread ticks : ℕ) → 1 ≤ spread → end * ticks - 3 * (spread * ticks) ≤ (end / spread - 2)
    * (spread * ticks)
late_tick end spread ticks some =
    let q : end * ticks ≤ (end / spread + 1) * spread * ticks =
    mul-le-mul_right {m = end} {n = (end / spread + 1) * spread} ticks (omega arith) in
    omega (arith, mul_assoc (end / spread + 1) spread ticks, two_less (end / spread) (spread * ticks))

module _ (law : S.Sending) (times : Times) (laws : PlanLaws) (c : Config) (plp : ℕ) (at : ℕ → List ℕ) (first count : ℕ)
    (plan : IsPlan c) (inside : plp < length c.plps) where
  abbrev r : SlotRule
  r = slot_rule c plp

  abbrev rates : Rates
  rates = rates_of c plp (epoch_ticks c plp)

  abbrev keeps : ℕ → Bool
  keeps = plp_keeps c plp at

  abbrev begun : ℕ
  begun = first / spread c.plps plp

  abbrev ended : ℕ
  ended = (first + count) / spread c.plps plp

  sound : IsSound r
  sound = sound_is laws c plp plan inside

  epoch : IsEpoch c plp
  epoch = laws.epochs c plp plan inside

  num_pos : 0 < num c
  num_pos = omega (arith, sound.times.some, sound.times.long)

  den_pos : 0 < den c plp
  den_pos = sound.times.some

  later : begun ≤ ended
  later =
      le-div begun (first + count) (spread c.plps plp) (omega (arith, sound.spread)) (omega (
        arith,
        div-mul-le_self first (spread c.plps plp),
      ))

  few : ended ≤ first + count
  few = div-le_self (first + count) (spread c.plps plp)

  -- a slot that is due was not over when all epochs had ended before the first one but one, and was when all but two
  -- had
  since : (k : ℕ) → first_slot r first ≤ k → slots_by c plp ((begun - 1) * epoch_ticks c plp) ≤ k
  since k from = omega (arith, ended_over times.rises r sound first)

  until : (k : ℕ) → k < due_after r (first + count) → k < slots_by c plp ((ended - 2) * epoch_ticks c plp)
  until k l =
      let q = times.rises (num c) (den c plp) ((first + count) * c.ticks - 3 * epoch_ticks c plp)
      ((ended - 2) * epoch_ticks c plp) num_pos (late_tick (first + count) (spread c.plps plp) c.ticks sound.spread) in
      omega (arith, times.old (num c) (den c plp) (epoch_ticks c plp) ((first + count) * c.ticks) k num_pos den_pos l)

  module _ (k : ℕ) (from : first_slot r first ≤ k) (due : k < due_after r (first + count)) where
    abbrev place : ℕ
    place = up_bytes c plp * length (kept_slots keeps k)

    -- the epochs before the first one and from the last one on have nothing of it
    outside : keeps k ≡ true → (i : ℕ) → (i < begun) ⊎ (ended ≤ i) → C.Misses rates keeps i place
    outside on i out =
        let p = times.partition (num c) (den c plp) (epoch_ticks c plp) k num_pos den_pos sound.times.least in
        let m : ℕ = p.0 in
        let low = C.since times.rises (num c) (den c plp) (epoch_ticks c plp) m k num_pos p.1.inside
        begun (since k from) in
        let high = C.until times.rises (num c) (den c plp) (epoch_ticks c plp) m k num_pos p.1.inside
        ended (until k due) in
        elim out [
          | inl before ↦ inl (
              let q = C.before_rises law.within rates keeps epoch.within.slot (i + 1) m (omega arith) in
              omega (
                arith,
                C.before_next rates keeps i,
                (law.begins rates keeps m k epoch.within on).begins p.1.inside,
              ))
          | inr behind ↦ inr (
              let q = C.before_rises law.within rates keeps epoch.within.slot (m + 1 + 1) i (omega arith) in
              omega (
                arith,
                C.before_next rates keeps (m + 1),
                law.ends rates keeps m k epoch.within epoch.holds on p.1.inside,
              ))
        ]

    module _ (lost : ℕ → Bool) where
      abbrev ends_lost : List ℕ
      ends_lost = filter lost (range_with_len begun (ended - begun))

      same_touched : keeps k ≡ true → is_touched rates keeps (filter lost (range_with_len 0 (first + count))) k
          ≡ is_touched rates keeps ends_lost k
      same_touched on =
          let test : ℕ → Bool = λ m. list_any (is_carried rates keeps m) (range_with_len place (up_bytes c plp)) in
          let total : first + count ≡ begun + (ended - begun + (first + count - ended)) = omega (arith, later, few) in
          ap (λ (n : ℕ). list_any test (filter lost (range_with_len 0 n))) total
          ∙ only_inside test lost begun (ended - begun) (first + count - ended)
          (λ m l. C.all_missed rates keeps m place (outside on m (inl l)))
          (λ m l. C.all_missed rates keeps m place (outside on m (inr (omega (arith, later)))))

      same_packet : recovered c plp (epoch_ticks c plp) at (filter lost (range_with_len 0 (first + count))) k
          ≡ recovered c plp (epoch_ticks c plp) at ends_lost k
      same_packet = elim (cases_Bool (keeps k)) [
        | inl on ↦ rw (on, same_touched on) refl
        | inr off ↦ rw off refl
      ]

pub lost_ended : S.Sending → Times → PlanLaws → LostEnded
lost_ended law times laws c plp at muted first count plan inside =
    let lost : ℕ → Bool = is_lost c plp muted first count in
    map_same (recovered c plp (epoch_ticks c plp) at (lost_frames c plp muted first count))
    (recovered c plp (epoch_ticks c plp) at (filter lost (epochs_in (spread c.plps plp) first count)))
    (first_slot (slot_rule c plp) first) (due_after (slot_rule c plp) (first + count) - first_slot (slot_rule c plp)
    first)
    (λ k a b. same_packet law times laws c plp at first count plan inside k a (omega arith) lost)

-- ---- Readback

pub readback_recovers : S.Sending → Times → KeptFollow → PlanLaws → ReadbackRecovers
unfolding readback
readback_recovers law times follow laws c plp at muted first count plan inside packets =
    let r : SlotRule = slot_rule c plp in
    let lost : ℕ → Bool = is_lost c plp muted first count in
    let from : ℕ = first / spread c.plps plp in
    let n : ℕ = (first + count) / spread c.plps plp - from in
    let order : from + n ≡ (first + count) / spread c.plps plp =
    omega (arith, later law times laws c plp at first count plan inside) in
    map_same (slot_packet r (string_of (up_bytes c plp) from (told_epochs c plp at lost from n)))
    (recovered c plp (epoch_ticks c plp) at (filter lost (range_with_len from n)))
    (first_slot r first) (due_after r (first + count) - first_slot r first)
    (λ k a b. slot_recovers law times follow laws c plp at lost from n k plan inside packets
    (since law times laws c plp at first count plan inside k a)
    (rw order (until law times laws c plp at first count plan inside k (omega arith))))
    ∙ sym (lost_ended law times laws c plp at muted first count plan inside)
