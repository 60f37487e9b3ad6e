-- Frames and epochs, and the slots that are over or given out after them.
use Rattle.std.proofs.Common.{◌≡◌, ◌≢◌, ℕ, ◌+◌, ◌-◌, ◌*◌, ◌/◌, ◌%◌, ◌<◌, ◌≤◌, sym, ap, ◌∙◌, arith, inl, inr}
use Rattle.std.proofs.lemmas.Bool.{cases_lt}
use Rattle.std.proofs.lemmas.Nat.{div-add-mod', div-mul-add, mod-mul-add}
use Rattle.std.proofs.Math.Nat.{mul-le-mul_right, div-le_self, mod-lt, add-mul, mul_assoc}
use Rattle.plp_config.specs.Laws.{CountRises, ReleasedFirst, ReleasedOld}
use Rattle.plp_receiver.specs.declared.slot_rule.SlotRule.{SlotRule}
use Rattle.plp_receiver.specs.Sound.{IsSound}
use Rattle.plp_config.specs.SlotTimes.{over_by}
use Rattle.plp_receiver.specs.Times.{epoch_of, last_frame, over_after, due_after}

-- ---- frames of an epoch
-- a frame by its epoch, and its place in it
pub record IsPlaced (spread frame epoch : ℕ) : Type 0 where
  pub place : ℕ
  pub below : place < spread
  pub frame_is : frame ≡ epoch * spread + place

pub placed : (spread frame : ℕ) → 1 ≤ spread → IsPlaced spread frame (frame / spread)
placed spread frame l = record {
  place = frame % spread;
  below = mod-lt frame (omega (arith, l));
  frame_is = sym (div-add-mod' frame spread);
}

pub epoch_at : (spread epoch place : ℕ) → place < spread → (epoch * spread + place) / spread ≡ epoch
epoch_at spread epoch place l = div-mul-add epoch spread place l

-- behind the last frame of an epoch the next one begins
pub next_epoch : (spread frame : ℕ) → 1 ≤ spread → (frame + 1) % spread ≡ 0 → (frame + 1) / spread ≡ frame / spread + 1
next_epoch spread frame l e = grind (arith, placed, cases_lt, mod-mul-add, div-mul-add)

-- behind another one the epoch goes on
pub same_epoch : (spread frame : ℕ) → 1 ≤ spread → (frame + 1) % spread ≢ 0 → (frame + 1) / spread ≡ frame / spread
same_epoch spread frame l ne = grind (arith, placed, cases_lt, div-mul-add, mod-mul-add)

-- the last frame of a later epoch is no earlier frame
pub last_is_late : (r : SlotRule) → 1 ≤ r.spread → (frame epoch : ℕ) → epoch_of r frame ≤ epoch
    → frame ≤ last_frame r epoch
last_is_late r l frame epoch m = grind (arith, placed, mul-le-mul_right)

-- an epoch that has ended did so before the frames of one epoch began
pub ended_before : (r : SlotRule) → 1 ≤ r.spread → (frame : ℕ) → (epoch_of r frame - 1) * r.spread ≤ frame - r.spread
ended_before r l frame = grind (arith, placed)

-- ---- ticks
pub tick_of_epochs : (r : SlotRule) → IsSound r → (epochs : ℕ) → epochs * r.times.epoch ≡ epochs * r.spread * r.ticks
tick_of_epochs r sound epochs = ap (λ (k : ℕ). epochs * k) sound.epoch ∙ sym (mul_assoc epochs r.spread r.ticks)

pub last_tick_is : (r : SlotRule) → IsSound r → (epoch : ℕ) → (epoch + 1) * r.times.epoch - r.ticks
    ≡ last_frame r epoch * r.ticks
last_tick_is r sound epoch =
    let n : ℕ = epoch * r.spread + r.spread - 1 in
    let some = sound.spread in
    let all : epoch * r.spread + r.spread ≡ n + 1 = omega (arith, some) in
    let one : (n + 1) * r.ticks ≡ n * r.ticks + r.ticks = omega arith in
    let sum : (epoch * r.spread + r.spread) * r.ticks ≡ epoch * r.spread * r.ticks + r.spread * r.ticks =
    add-mul (epoch * r.spread) r.spread r.ticks in
    let same : (epoch * r.spread + r.spread) * r.ticks ≡ (n + 1) * r.ticks = ap (λ (k : ℕ). k * r.ticks) all in
    let whole : (epoch + 1) * r.times.epoch ≡ epoch * r.times.epoch + r.times.epoch = omega arith in
    let own = sound.epoch in
    omega (arith, one, sum, same, whole, own, tick_of_epochs r sound epoch)

-- ---- slots
early_tick : (frame spread ticks : ℕ) → frame * ticks - 3 * (spread * ticks) ≤ (frame - spread) * ticks
early_tick frame spread ticks = grind (arith, cases_lt, mul-le-mul_right, add-mul)

-- Slots that are given out were over when the frames of one epoch had not come yet.
pub released_late : ReleasedOld → CountRises → (r : SlotRule) → IsSound r → (frame : ℕ)
    → due_after r frame ≤ over_after r (frame - r.spread)
released_late old rises r sound frame =
    let a = sound.times.some in
    let b = sound.times.long in
    elim (cases_lt (over_after r (frame - r.spread)) (due_after r frame)) [
      | inl lt ↦
          let p = old r.times.num r.times.den r.times.epoch (frame * r.ticks) (over_after r (frame - r.spread))
          (omega (arith, a, b)) (omega (arith, a)) lt in
          let m = rises r.times.num r.times.den (frame * r.ticks - 3 * r.times.epoch) ((frame - r.spread) * r.ticks)
          (omega (arith, a, b))
          (let own = sound.epoch in let early = early_tick frame r.spread r.ticks in omega (arith, own, early)) in
          absurd (omega (arith, p, m))
      | inr ge ↦ ge
    ]

pub all_rise : CountRises → (r : SlotRule) → IsSound r → (frame later : ℕ) → frame ≤ later → over_after r frame
    ≤ over_after r later
all_rise rises r sound frame later l = grind (arith, mul-le-mul_right)

-- The slots of the epochs that have ended were over then, too.
pub ended_over : CountRises → (r : SlotRule) → IsSound r → (frame : ℕ) → over_by r.times (epoch_of r frame - 1)
    ≤ over_after r (frame - r.spread)
ended_over rises r sound frame =
    let a = sound.times.some in
    let b = sound.times.long in
    let m : ℕ = epoch_of r frame - 1 in
    let q : m * r.spread * r.ticks ≤ (frame - r.spread) * r.ticks =
    mul-le-mul_right {m = m * r.spread} {n = frame - r.spread} r.ticks (ended_before r sound.spread frame) in
    let e = tick_of_epochs r sound m in
    rises r.times.num r.times.den (m * r.times.epoch) ((frame - r.spread) * r.ticks) (omega (arith, a, b))
    (omega (arith, q, e))

-- ---- before all frames
-- No slot is over then,
pub none_over : (r : SlotRule) → over_after r (0 - r.spread) ≤ 0
none_over r = grind (arith, div-le_self)

-- and none is given out.
pub none_given : ReleasedFirst → (r : SlotRule) → IsSound r → due_after r 0 ≡ 0
none_given law r sound = grind (arith, cases_lt)
