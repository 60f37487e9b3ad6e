-- Starts, counts and ranges of slots, for epochs of any number of ticks.
use Rattle.std.proofs.Common.{◌≡◌, ◌≢◌, ℕ, zero, suc, ◌+◌, ◌-◌, ◌*◌, ◌/◌, ◌%◌, ◌^◌, ◌<◌, ◌≤◌, ◌↔◌, sym, ap, ◌∙◌, arith}
use Rattle.std.proofs.Common.{inl, inr}
use Rattle.std.proofs.Math.Nat.{le-div_iff_mul-le, div-lt_iff_lt-mul, mul-le-mul_left, mul-le-mul_right}
use Rattle.std.proofs.Math.Nat.{lt_of_mul-lt-mul_right}
use Rattle.std.proofs.Math.Nat.{le_of_mul-le-mul_right, add-mul, mul_assoc}
use Rattle.std.proofs.lemmas.Nat.{div-add-mod'}
use Rattle.std.proofs.lemmas.Grind.{div_ceil_times}
use Rattle.std.proofs.lemmas.Bool.{cases_lt, cases_order}
use Rattle.std.specs.Int.{div_ceil}
use Rattle.plp_config.specs.SlotTime.{slot_start, slot_count, InRange, tick_of_iscr, delay_ticks, released_count}
use Rattle.plp_config.specs.SlotTime.{window_slots}
use Rattle.plp_config.specs.Laws.{StartsBefore, StartsFrom, StartsAt, OverBy, NotOverBy, CountReaches, StartRises}
use Rattle.plp_config.specs.Laws.{CountRises}
use Rattle.plp_config.specs.Laws.{NoneAtZero, EndsAfterStart, StartsApart, RangesPartition, RangeBounds, SpansEpoch}
use Rattle.plp_config.specs.Laws.{OneSlotPerIscr, IscrFindsSlot, DelayOutlasts, ReleasedFirst, ReleasedOld, WindowHolds}

-- ---- quotients rounded up

-- the quotient rounded up is enough
pub div_ceil-ge : (a b : ℕ) → 0 < b → a ≤ div_ceil a b * b
div_ceil-ge a b pos = (div_ceil_times a b pos).0

-- and one less is not
pub div_ceil-lt : (a b : ℕ) → 0 < b → div_ceil a b * b < a + b
div_ceil-lt a b pos = (div_ceil_times a b pos).1

-- below the quotient rounded up
pub lt-div_ceil : (a b k : ℕ) → 0 < b → (k < div_ceil a b) ↔ (k * b < a)
lt-div_ceil a b k pos = (
  (λ below.
      let next : (k + 1) * b ≤ div_ceil a b * b = mul-le-mul_right b (omega arith) in
      omega (arith, div_ceil-lt a b pos, add-mul k 1 b)),
  (λ below. lt_of_mul-lt-mul_right b (omega (arith, div_ceil-ge a b pos))),
)

-- ---- starts and counts

pub starts_before : StartsBefore
starts_before num den slot tick pos = div-lt_iff_lt-mul pos

pub starts_from : StartsFrom
starts_from num den slot tick pos = le-div_iff_mul-le pos

pub starts_at : StartsAt
starts_at num den slot tick pos = (
  (λ at. (
    (starts_from num den slot tick pos).0 (omega arith),
    (starts_before num den slot (tick + 1) pos).0
        (omega arith),
  )),
  (λ at. omega (arith, (starts_from num den slot tick pos).1 at.0, (starts_before num den slot (tick + 1) pos).1 at.1)),
)

pub count_reaches : CountReaches
count_reaches num den slots tick pos = le-div_iff_mul-le pos

pub over_by : OverBy
over_by num den slot tick pos = (
  (λ over. (count_reaches num den (slot + 1) tick pos).0 (omega arith)),
  (λ over. omega (arith, (count_reaches num den (slot + 1) tick pos).1 over)),
)

pub not_over_by : NotOverBy
not_over_by num den slot tick pos = (
  (λ not. elim (cases_lt (tick * den) ((slot + 1) * num)) [
    | inl lt ↦ lt
    | inr le ↦ absurd (omega (arith, (over_by num den slot tick pos).1 le))
  ]),
  (λ not. elim (cases_lt slot (slot_count num den tick)) [
    | inl lt ↦ absurd (omega (arith, (over_by num den slot tick pos).0 lt))
    | inr le ↦ le
  ]),
)

pub start_rises : StartRises
start_rises num den slot later pos le =
    (starts_from num den later (slot_start num den slot) pos).1
    (omega (
      arith,
      (starts_from num den slot (slot_start num den slot) pos).0 (omega arith),
      mul-le-mul_right {m = slot} {n = later} num le,
    ))

pub count_rises : CountRises
count_rises num den tick later pos le =
    (count_reaches num den (slot_count num den tick) later pos).1
    (omega (
      arith,
      (count_reaches num den (slot_count num den tick) tick pos).0 (omega arith),
      mul-le-mul_right {m = tick} {n = later} den le,
    ))

pub none_at_zero : NoneAtZero
none_at_zero num den pos =
    elim (cases_lt 0 (slot_count num den 0)) [
      | inl some ↦ absurd (omega (arith, (over_by num den 0 0 pos).0 some))
      | inr none ↦ omega arith
    ]

pub ends_after_start : EndsAfterStart
ends_after_start num den slot pos =
    let start = slot_start num den slot in
    let early : slot * num < (start + 1) * den = (starts_before num den slot (start + 1) pos).0 (omega arith) in
    let whole : (slot + 1) * num ≡ slot * num + 1 * num = add-mul slot 1 num in
    let parts : (start + 1 + div_ceil num den) * den ≡ (start + 1) * den + div_ceil num den * den =
    add-mul (start + 1) (div_ceil num den) den in
    omega (arith, div_ceil-ge num den pos)

-- the next slot starts a tick later, or more
next_start : (num den slot : ℕ) → 0 < den → den ≤ num → slot_start num den slot + 1 ≤ slot_start num den (slot + 1)
next_start num den slot pos long =
    let start = slot_start num den slot in
    let here : start * den ≤ slot * num = (starts_from num den slot start pos).0 (omega arith) in
    let whole : (slot + 1) * num ≡ slot * num + 1 * num = add-mul slot 1 num in
    let parts : (start + 1) * den ≡ start * den + 1 * den = add-mul start 1 den in
    (starts_from num den (slot + 1) (start + 1) pos).1 (omega arith)

pub starts_apart : StartsApart
starts_apart num den slot later pos long lt =
    omega (arith, next_start num den slot pos long, start_rises num den (slot + 1) later pos (omega arith))

-- ---- ranges

-- nothing is over before epoch 1
positive_epoch : (num den epoch m slot : ℕ) → 0 < num → slot < slot_count num den (m * epoch) → 1 ≤ m
positive_epoch num den epoch zero slot pos lt = absurd (omega (arith, none_at_zero num den pos))
positive_epoch num den epoch (suc m) slot pos lt = omega arith

pub range_bounds : RangeBounds
range_bounds num den epoch m slot pos range = (
  positive_epoch num den epoch m slot pos range.1,
  (over_by num den slot (m * epoch) pos).0 range.1,
  (not_over_by num den slot ((m - 1) * epoch) pos).0 range.0,
)

-- the range of a slot is that of the epoch in which it ends
pub ranges_partition : RangesPartition
ranges_partition num den epoch slot pos den_pos long =
    let end = (slot + 1) * num in
    let length : 0 < epoch * den = omega (arith, mul-le-mul_right {m = 1} {n = epoch} den long) in
    let m = div_ceil end (epoch * den) in
    let some : 0 < m =
    (lt-div_ceil end (epoch * den) 0 length).1 (omega (
      arith,
      mul-le-mul_right {m = 1} {n = slot + 1}
          num (omega arith),
    )) in
    let low : (m - 1) * (epoch * den) < end = (lt-div_ceil end (epoch * den) (m - 1) length).0 (omega arith) in
    let high : end ≤ m * (epoch * den) = div_ceil-ge end (epoch * den) length in
    let early : (m - 1) * epoch * den ≡ (m - 1) * (epoch * den) = mul_assoc (m - 1) epoch den in
    let late : m * epoch * den ≡ m * (epoch * den) = mul_assoc m epoch den in
    let only : (other : ℕ) → InRange num den epoch other slot → other ≡ m = λ other range.
    (let bounds : (1 ≤ other) × (end ≤ other * epoch * den) × ((other - 1) * epoch * den < end) =
    range_bounds num den epoch other slot pos range in
    let above : (other - 1) * epoch * den ≡ (other - 1) * (epoch * den) = mul_assoc (other - 1) epoch den in
    let below : other * epoch * den ≡ other * (epoch * den) = mul_assoc other epoch den in
    let less : other - 1 < m = (lt-div_ceil end (epoch * den) (other - 1) length).1 (omega (arith, bounds)) in
    let more : m - 1 < other = lt_of_mul-lt-mul_right (epoch * den) (omega (arith, bounds)) in
    omega (arith, bounds.0)) in (
      m,
      record {
        positive = omega arith;
        inside = (
          (not_over_by num den slot ((m - 1) * epoch) pos).1 (omega arith),
          (over_by num den slot (m * epoch) pos).1 (omega arith),
        );
        only = only;
      },
    )

-- the last epoch apart
last_epoch : (m epoch den : ℕ) → 1 ≤ m → m * epoch * den ≡ (m - 1) * epoch * den + epoch * den
last_epoch m epoch den some =
    let whole : (m - 1) + 1 ≡ m = omega arith in
    let next : (m - 1 + 1) * epoch * den ≡ (m - 1) * epoch * den + epoch * den = omega arith in
    ap (λ (k : ℕ). k * epoch * den) (sym whole) ∙ next

pub spans_epoch : SpansEpoch
spans_epoch num den epoch m slot later pos long range other lt =
    let num_pos : 0 < num = omega arith in
    let s = slot_start num den slot in
    let t = slot_start num den later in
    let bounds : (1 ≤ m) × ((later + 1) * num ≤ m * epoch * den) × ((m - 1) * epoch * den < (later + 1) * num) =
    range_bounds num den epoch m later num_pos other in
    let ends : (1 ≤ m) × ((slot + 1) * num ≤ m * epoch * den) × ((m - 1) * epoch * den < (slot + 1) * num) =
    range_bounds num den epoch m slot num_pos range in
    let from : t * den ≤ later * num = (starts_from num den later t pos).0 (omega arith) in
    let before : slot * num < (s + 1) * den = (starts_before num den slot (s + 1) pos).0 (omega arith) in
    let one : (later + 1) * num ≡ later * num + 1 * num = add-mul later 1 num in
    let two : (slot + 1) * num ≡ slot * num + 1 * num = add-mul slot 1 num in
    let epochs : m * epoch * den ≡ (m - 1) * epoch * den + epoch * den = last_epoch m epoch den bounds.0 in
    let sum : (epoch + (s + 1)) * den ≡ epoch * den + (s + 1) * den = add-mul epoch (s + 1) den in
    let under : t < epoch + (s + 1) = lt_of_mul-lt-mul_right den (omega (arith, bounds, ends)) in
    (starts_apart num den slot later pos long lt, omega arith)

-- ---- the ISCR

-- numbers less than a modulus apart have different remainders
mod_apart : (a b k : ℕ) → a < b → b < a + k → a % k ≢ b % k
mod_apart a b k lt near same =
    let low : a / k * k + a % k ≡ a = div-add-mod' a k in
    let high : b / k * k + b % k ≡ b = div-add-mod' b k in
    let rises : a / k < b / k = lt_of_mul-lt-mul_right k (omega arith) in
    let next : (a / k + 1) * k ≤ b / k * k = mul-le-mul_right k (omega arith) in
    omega (arith, add-mul (a / k) 1 k)

pub one_slot_per_iscr : OneSlotPerIscr
one_slot_per_iscr num den epoch m slot later pos long short range other lt =
    let span : (slot_start num den slot < slot_start num den later)
    × (slot_start num den later ≤ slot_start num den slot + epoch)
    = spans_epoch num den epoch m slot later pos long range other lt in
    mod_apart (slot_start num den slot) (slot_start num den later) (2 ^ 22) span.0 (omega (arith, span.1))

-- the tick of a number's ISCR, counted from at most 2^22 - 1 ticks before, is that number
tick_found : (from tick : ℕ) → from ≤ tick → tick < from + 2 ^ 22 → tick_of_iscr from (tick % 2 ^ 22) ≡ tick
tick_found from tick le near = omega arith

-- the start of a slot gives the slot, if a slot lasts a tick or more
slot_of_start : (num den slot : ℕ) → 0 < den → den ≤ num → div_ceil (slot_start num den slot * den) num ≡ slot
slot_of_start num den slot pos long =
    let num_pos : 0 < num = omega arith in
    let start = slot_start num den slot in
    let from : start * den ≤ slot * num = (starts_from num den slot start pos).0 (omega arith) in
    let before : slot * num < (start + 1) * den = (starts_before num den slot (start + 1) pos).0 (omega arith) in
    let parts : (start + 1) * den ≡ start * den + 1 * den = add-mul start 1 den in
    elim (cases_order (div_ceil (start * den) num) slot) [
      | inl same ↦ same
      | inr (inl less) ↦
          let next : (div_ceil (start * den) num + 1) * num ≤ slot * num = mul-le-mul_right num (omega arith) in
          absurd (omega (arith, div_ceil-ge (start * den) num num_pos, add-mul (div_ceil (start * den) num) 1 num))
      | inr (inr more) ↦ absurd (omega (arith, (lt-div_ceil (start * den) num slot num_pos).0 more))
    ]

pub iscr_finds_slot : IscrFindsSlot
iscr_finds_slot num den epoch m slot pos long short range =
    let num_pos : 0 < num = omega arith in
    let first = slot_count num den ((m - 1) * epoch) in
    let from : slot_start num den first ≤ slot_start num den slot = start_rises num den first slot pos range.0 in
    let near : slot_start num den slot < slot_start num den first + 2 ^ 22 = elim (cases_lt first slot) [
      | inl later ↦
          omega (
            arith,
            (spans_epoch num den epoch m first slot pos long (omega arith, omega (arith, range.1))
                range later).1,
          )
      | inr same ↦ omega (arith, start_rises num den slot first pos same)
    ] in
    let tick : tick_of_iscr (slot_start num den first) (slot_start num den slot % 2 ^ 22) ≡ slot_start num den slot
    = tick_found (slot_start num den first) (slot_start num den slot) from near in
    rw tick (slot_of_start num den slot pos long)

-- ---- delay, release and window

pub delay_outlasts : DelayOutlasts
delay_outlasts num den epoch m slot pos den_pos range =
    let start = slot_start num den slot in
    let bounds : (1 ≤ m) × ((slot + 1) * num ≤ m * epoch * den) × ((m - 1) * epoch * den < (slot + 1) * num) =
    range_bounds num den epoch m slot pos range in
    let late : (slot + 1) * num < (start + 1 + div_ceil num den) * den = ends_after_start num den slot den_pos in
    let before : (m - 1) * epoch < start + 1 + div_ceil num den = lt_of_mul-lt-mul_right den (omega (arith, bounds)) in
    let whole : m + 2 ≡ m - 1 + 3 = omega (arith, bounds.0) in
    let three : (m + 2) * epoch ≡ (m - 1) * epoch + 3 * epoch = ap (λ (k : ℕ). k * epoch) whole
    ∙ add-mul (m - 1) 3 epoch in
    omega arith

pub released_first : ReleasedFirst
released_first num den delay tick slot pos den_pos = (
  (λ below.
      let product : slot * num < (tick + 1 - delay) * den = (lt-div_ceil ((tick + 1 - delay) * den) num slot pos).0
      below in
      omega (arith, (starts_before num den slot (tick + 1 - delay) den_pos).1 product)),
  (λ early.
      let before : slot_start num den slot < tick + 1 - delay = omega arith in
      (lt-div_ceil ((tick + 1 - delay) * den) num slot pos).1 ((starts_before num den slot (tick + 1 - delay) den_pos).0
      before)),
)

pub released_old : ReleasedOld
released_old num den epoch tick slot pos den_pos released =
    let start = slot_start num den slot in
    let early : start + delay_ticks num den epoch ≤ tick =
    (released_first num den (delay_ticks num den epoch) tick slot pos den_pos).0 released in
    let end : (slot + 1) * num < (start + 1 + div_ceil num den) * den = ends_after_start num den slot den_pos in
    let room : (start + 1 + div_ceil num den) * den ≤ (tick - 3 * epoch) * den = mul-le-mul_right den (omega arith) in
    (omega arith, (over_by num den slot (tick - 3 * epoch) pos).1 (omega arith))

-- the slots held last no longer than the delay
held_slots : (num den delay tick first : ℕ) → 0 < num → 0 < den → released_count num den delay tick ≤ first
    → (slot_count num den tick - first) * num ≤ delay * den
held_slots num den delay tick first pos den_pos released =
    let count = slot_count num den tick in
    let over : count * num ≤ tick * den = (count_reaches num den count tick pos).0 (omega arith) in
    let given : (tick + 1 - delay) * den ≤ released_count num den delay tick * num =
    div_ceil-ge ((tick + 1 - delay) * den) num pos in
    let first_given : released_count num den delay tick * num ≤ first * num = mul-le-mul_right num released in
    let split : tick * den ≤ (tick + 1 - delay + delay) * den = mul-le-mul_right den (omega arith) in
    elim (cases_lt first count) [
      | inl some ↦
          let whole : count ≡ count - first + first = omega arith in
          let parts : count * num ≡ (count - first) * num + first * num = ap (λ (k : ℕ). k * num) whole
          ∙ add-mul (count - first) first num in
          omega (arith, add-mul (tick + 1 - delay) delay den)
      | inr none ↦
          let zero_held : count - first ≡ 0 = omega arith in
          rw zero_held (omega arith)
    ]

pub window_holds : WindowHolds
window_holds num den delay ticks tick first pos den_pos released =
    let count = slot_count num den tick in
    let all : (delay + ticks) * den ≤ div_ceil ((delay + ticks) * den) num * num = div_ceil-ge ((delay + ticks) * den)
    num pos in
    let held : (count - first) * num ≤ delay * den = held_slots num den delay tick first pos den_pos released in
    let within : count - first ≤ div_ceil ((delay + ticks) * den) num =
    le_of_mul-le-mul_right (omega (arith, add-mul delay ticks den)) pos in
    omega arith

-- the window of a slot that lasts 38 ticks or more, with epochs of no fewer ticks than a frame
pub window_small : (num den epoch ticks : ℕ) → 0 < den → 38 * den ≤ num → epoch < 2 ^ 22 → ticks ≤ epoch
    → window_slots num den (delay_ticks num den epoch) ticks < 2 ^ 20
window_small num den epoch ticks pos long short few =
    let num_pos : 0 < num = omega arith in
    let delay = delay_ticks num den epoch in
    let slots = div_ceil ((delay + ticks) * den) num in
    let upper : slots * num < (delay + ticks) * den + num = div_ceil-lt ((delay + ticks) * den) num num_pos in
    let parts : (delay + ticks) * den ≡ div_ceil num den * den + den + 3 * (epoch * den) + ticks * den = omega arith in
    let frame : ticks * den ≤ epoch * den = mul-le-mul_right den few in
    let length : div_ceil num den * den < num + den = div_ceil-lt num den pos in
    let epochs : epoch * (38 * den) ≤ epoch * num = mul-le-mul_left epoch long in
    let all : 38 * slots * num < (78 + 4 * epoch) * num = omega arith in
    omega (arith, lt_of_mul-lt-mul_right num all)
