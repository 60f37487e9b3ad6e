-- The number of frames of a run is the least multiple of a superframe that is enough.
use Rattle.std.proofs.Common.{◌≡◌, ℕ, zero, suc, ◌+◌, ◌*◌, ◌/◌, ◌<◌, ◌≤◌, length, sym, ap, ◌∙◌, arith, inl, inr}
use Rattle.std.specs.Int.{div_ceil}
use Rattle.std.proofs.Math.Nat.{mul_assoc, mul-mod_left, mul-le-mul_right}
use Rattle.std.proofs.lemmas.Bool.{cases_lt, cases_eq}
use Rattle.std.proofs.lemmas.Nat.{mul-le, div-add-mod'}
use Rattle.plp_config.proofs.TimeLemmas.{div_ceil-ge, lt-div_ceil}
use Rattle.plp_config.specs.FirstFailure.{HoldsBelow}
use Rattle.plp_config.specs.Laws.{FrameCountLeast}
use Rattle.plp_config.specs.Rules.{FrameDuration, SuperframeLength}
use Rattle.plp_config.specs.RunLength.{last_tick, frame_count}
use Rattle.plp_config.specs.SlotTime.{start, delay}
use Rattle.plp_config.specs.declared.config.Config.{Config}

-- no PLP is done later
le-last_tick : (c : Config) (packets : ℕ → ℕ) (n : ℕ)
    → HoldsBelow (λ plp. start c plp (packets plp) + delay c plp ≤ last_tick c packets n) n
unfolding last_tick
le-last_tick c packets zero plp lt = absurd (omega arith)
le-last_tick c packets (suc n) plp lt = elim (cases_eq plp n) [
  | inl same ↦ omega (arith, ap (λ (k : ℕ). start c k (packets k) + delay c k) same)
  | inr differ ↦ omega (arith, le-last_tick c packets n plp (omega arith))
]

-- a tick by which all are done is not before it
last_tick-le : (c : Config) (packets : ℕ → ℕ) (tick n : ℕ)
    → HoldsBelow (λ plp. start c plp (packets plp) + delay c plp ≤ tick) n
    → last_tick c packets n ≤ tick
unfolding last_tick
last_tick-le c packets tick zero done = omega arith
last_tick-le c packets tick (suc n) done =
    omega (arith, done n (omega arith), last_tick-le c packets tick n (λ plp lt. done plp (omega arith)))

pub frame_count_least : FrameCountLeast
unfolding frame_count
frame_count_least c packets rules =
    let last = last_tick c packets (length c.plps) in
    let superframe : 0 < c.frames * c.ticks =
    omega (arith, mul-le 2 1000 c.frames c.ticks (rules SuperframeLength).0 (rules FrameDuration).0) in
    let runs = div_ceil last (c.frames * c.ticks) in
    let enough : last ≤ runs * c.frames * c.ticks =
    omega (arith, div_ceil-ge last (c.frames * c.ticks) superframe, mul_assoc runs c.frames c.ticks) in
    record {
      superframes = mul-mod_left runs c.frames;
      enough = λ plp lt. omega (arith, le-last_tick c packets (length c.plps) plp lt);
      least = λ other whole done.
          (let q = other / c.frames in
          let parts : q * c.frames + 0 ≡ other = rw (sym whole) (div-add-mod' other c.frames) in
          let late : last ≤ other * c.ticks = last_tick-le c packets (other * c.ticks) (length c.plps) done in
          let span : other * c.ticks ≡ q * (c.frames * c.ticks) = ap (λ (k : ℕ). k * c.ticks) (omega arith)
          ∙ mul_assoc q c.frames c.ticks in
          let runs_le : runs ≤ q = elim (cases_lt q runs) [
            | inl more ↦ absurd (omega (arith, (lt-div_ceil last (c.frames * c.ticks) q superframe).0 more))
            | inr le ↦ le
          ] in
          omega (arith, mul-le-mul_right {m = runs} {n = q} c.frames runs_le));
    }
