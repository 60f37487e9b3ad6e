-- The interleaving frames of a PLP that begin before a frame, as the frames go on.
use Rattle.std.proofs.Common.{◌≡◌, ℕ, ◌+◌, ◌*◌, ◌/◌, ◌%◌, ◌<◌, ◌≤◌, true, false, ap, sym, ◌∙◌, inl, inr, arith}
use Rattle.std.specs.Prelude.{◌==◌, min}
use Rattle.std.specs.Int.{div_ceil}
use Rattle.std.proofs.Math.Nat.{mul-le-mul_right, mul_assoc, zero-div, zero-mod, div-mul-le_self}
use Rattle.std.proofs.lemmas.Bool.{cases_lt, eqb-true, eq-eqb}
use Rattle.std.proofs.lemmas.Nat.{div-add-mod', div-mul-add, mod-mul-add, mod_below}
use Rattle.plp_config.proofs.TimeLemmas.{div_ceil-ge}
use Rattle.plp_config.specs.InterleavingFrames.{interleaving_frame, is_first}
use Rattle.plp_config.specs.Plps.{spread}
use Rattle.plp_config.specs.SlotTime.{epoch_ticks}
use Rattle.plp_config.specs.declared.config.Config.{Config}
use Rattle.gateway_core.specs.IsFed.{begun_before}

-- ---- quotients that are rounded up

up_whole : (n p : ℕ) → n % p ≡ 0 → div_ceil n p ≡ n / p
up_whole n p e = let m = ap (min 1) e in omega (arith, m)

up_part : (n p : ℕ) → 0 < n % p → div_ceil n p ≡ n / p + 1
up_part n p some = omega (arith, some)

-- the next number's is one more than the quotient
up_next : (n p : ℕ) → 0 < p → div_ceil (n + 1) p ≡ n / p + 1
up_next n p some =
    let parts = div-add-mod' n p in
    let below : n % p < p = mod_below n p some in
    elim (cases_lt (n % p + 1) p) [
      | inl lt ↦
          let is : n + 1 ≡ n / p * p + (n % p + 1) = omega (arith, parts) in
          let quotient : (n + 1) / p ≡ n / p = ap (λ (m : ℕ). m / p) is ∙ div-mul-add (n / p) p (n % p + 1) lt in
          let rest : (n + 1) % p ≡ n % p + 1 = ap (λ (m : ℕ). m % p) is ∙ mod-mul-add (n / p) p (n % p + 1) lt in
          up_part (n + 1) p (omega (arith, rest)) ∙ ap (λ (m : ℕ). m + 1) quotient
      | inr ge ↦
          let full : n % p + 1 ≡ p = omega (arith, below, ge) in
          let more : (n / p + 1) * p ≡ n / p * p + p = omega arith in
          let is : n + 1 ≡ (n / p + 1) * p + 0 = omega (arith, parts, full, more) in
          let quotient : (n + 1) / p ≡ n / p + 1 = ap (λ (m : ℕ). m / p) is ∙ div-mul-add (n / p + 1) p 0 some in
          let rest : (n + 1) % p ≡ 0 = ap (λ (m : ℕ). m % p) is ∙ mod-mul-add (n / p + 1) p 0 some in
          up_whole (n + 1) p rest ∙ quotient
    ]

not_whole : (n : ℕ) → (n == 0) ≡ false → 0 < n
not_whole n off = elim (cases_lt 0 n) [
  | inl lt ↦ lt
  | inr ge ↦ absurd (let e : n ≡ 0 = omega (arith, ge) in let z : true ≡ false = sym (eq-eqb n 0 e) ∙ off in cc)
]

-- ---- of a PLP

-- One begins in frame 0, and none before it.
pub begins_at_once : (c : Config) (plp : ℕ) → is_first c plp 0 ≡ true
begins_at_once c plp = eq-eqb (0 % spread c.plps plp) 0 (zero-mod (spread c.plps plp))

pub none_before : (c : Config) (plp : ℕ) → begun_before c plp 0 ≡ 0
none_before c plp = up_whole 0 (spread c.plps plp) (zero-mod (spread c.plps plp)) ∙ zero-div (spread c.plps plp)

-- If one begins in a frame, so many begin before it as its number says, and one more before the next frame;
pub before_first : (c : Config) (plp frame : ℕ) → is_first c plp frame ≡ true → begun_before c plp frame
    ≡ interleaving_frame c plp frame
before_first c plp frame on = up_whole frame (spread c.plps plp) (eqb-true (frame % spread c.plps plp) 0 on)

pub before_next : (c : Config) (plp frame : ℕ) → 1 ≤ spread c.plps plp → is_first c plp frame ≡ true
    → begun_before c plp (frame + 1) ≡ begun_before c plp frame + 1
before_next c plp frame some on = up_next frame (spread c.plps plp) some
    ∙ ap (λ (m : ℕ). m + 1) (sym (before_first c plp frame on))

-- else so many as before it,
pub before_same : (c : Config) (plp frame : ℕ) → 1 ≤ spread c.plps plp → is_first c plp frame ≡ false
    → begun_before c plp (frame + 1) ≡ begun_before c plp frame
before_same c plp frame some off = up_next frame (spread c.plps plp) some
    ∙ sym (up_part frame (spread c.plps plp) (not_whole (frame % spread c.plps plp) off))

-- and a frame carries the same one as the frame before.
pub same_number : (c : Config) (plp frame : ℕ) → 1 ≤ spread c.plps plp → is_first c plp (frame + 1) ≡ false
    → interleaving_frame c plp (frame + 1) ≡ interleaving_frame c plp frame
same_number c plp frame some off =
    let one = up_next frame (spread c.plps plp) some in
    let other = up_part (frame + 1) (spread c.plps plp) (not_whole ((frame + 1) % spread c.plps plp) off) in
    omega (arith, one, other)

-- ---- the ticks at which they begin

-- The next one begins no earlier than a frame,
pub begins_behind : (c : Config) (plp frame : ℕ) → 1 ≤ spread c.plps plp
    → frame * c.ticks ≤ begun_before c plp frame * epoch_ticks c plp
begins_behind c plp frame some =
    let up : frame ≤ begun_before c plp frame * spread c.plps plp = div_ceil-ge frame (spread c.plps plp) some in
    let ticks : frame * c.ticks ≤ begun_before c plp frame * spread c.plps plp * c.ticks = mul-le-mul_right
    c.ticks up in
    let e = mul_assoc (begun_before c plp frame) (spread c.plps plp) c.ticks in
    omega (arith, ticks, e)

-- and with it if it is its first one.
pub begins_with : (c : Config) (plp frame : ℕ) → is_first c plp frame ≡ true
    → begun_before c plp frame * epoch_ticks c plp
    ≡ frame * c.ticks
begins_with c plp frame on =
    let whole : frame % spread c.plps plp ≡ 0 = eqb-true (frame % spread c.plps plp) 0 on in
    let parts = div-add-mod' frame (spread c.plps plp) in
    let count = before_first c plp frame on in
    let is : begun_before c plp frame * spread c.plps plp ≡ frame =
    ap (λ (m : ℕ). m * spread c.plps plp) count ∙ omega (arith, whole, parts) in
    sym (mul_assoc (begun_before c plp frame) (spread c.plps plp) c.ticks) ∙ ap (λ (m : ℕ). m * c.ticks) is

-- The one that a frame carries begins no later than the frame.
pub begins_by : (c : Config) (plp frame : ℕ) → interleaving_frame c plp frame * epoch_ticks c plp ≤ frame * c.ticks
begins_by c plp frame =
    let down : interleaving_frame c plp frame * spread c.plps plp ≤ frame = div-mul-le_self frame (spread c.plps plp) in
    let ticks : interleaving_frame c plp frame * spread c.plps plp * c.ticks ≤ frame * c.ticks =
    mul-le-mul_right c.ticks down in
    let e = mul_assoc (interleaving_frame c plp frame) (spread c.plps plp) c.ticks in
    omega (arith, ticks, e)
