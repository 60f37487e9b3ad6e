-- Where interleaving frames begin.
use Rattle.std.proofs.Common.{◌≡◌, ℕ, suc, ◌+◌, ◌-◌, ◌*◌, ◌/◌, ◌%◌, ◌<◌, ◌≤◌, ap, sym, ◌∙◌, ⊎_elim, arith}
use Rattle.std.proofs.Math.Nat.{mod-one, mod-le, mul_assoc, add-mul-mod_self_right, mul-le-mul_right, mul-mod_left}
use Rattle.std.proofs.lemmas.Bool.{cases_lt, eq-eqb, eqb-true}
use Rattle.std.proofs.lemmas.Nat.{div-add-mod', mod_below}
use Rattle.plp_config.specs.Laws.{SuperframeBegins, BeginsInSuperframe, BeginIsFirst, BeginIsLast, BeginByNumber}
use Rattle.plp_config.specs.Laws.{BeginAlone}
use Rattle.plp_config.specs.Plps.{spread}
use Rattle.plp_config.proofs.SpreadLemmas.{spread_divides}

-- the rest by a divisor is no more
rest-le : (n p f : ℕ) → f % p ≡ 0 → n % p ≤ n % f
rest-le n p f whole =
    let parts : n / f * f + n % f ≡ n = div-add-mod' n f in
    let own : f / p * p + f % p ≡ f = div-add-mod' f p in
    let times : f ≡ f / p * p = omega (arith, own, whole) in
    let turn : n / f * f ≡ n / f * (f / p) * p = ap (λ (k : ℕ). n / f * k) times ∙ sym (mul_assoc (n / f) (f / p) p) in
    let is : n % f + n / f * (f / p) * p ≡ n = omega (arith, parts, turn) in
    let same : n % p ≡ n % f % p = sym (ap (λ (k : ℕ). k % p) is) ∙ add-mul-mod_self_right (n % f) (n / f * (f / p))
    p in
    let less = mod-le (n % f) p in
    omega (arith, same, less)

pub superframe_begins : SuperframeBegins
superframe_begins c plp n rules inside whole =
    let l = rest-le n (spread c.plps plp) c.frames (spread_divides c plp rules inside).1 in
    eq-eqb (n % spread c.plps plp) 0 (omega (arith, l, whole))

pub begins_inside : BeginsInSuperframe
begins_inside c plp n rules inside =
    let l = rest-le n (spread c.plps plp) c.frames (spread_divides c plp rules inside).1 in
    omega (arith, l)

-- what is left without the rest is a multiple
multiple : (n p : ℕ) → n - n % p ≡ n / p * p
multiple n p = let parts : n / p * p + n % p ≡ n = div-add-mod' n p in omega (arith, parts)

pub begin_by_number : BeginByNumber
begin_by_number c plp n = multiple n (spread c.plps plp)

pub begin_first : BeginIsFirst
begin_first c plp n rules inside =
    eq-eqb ((n - n % spread c.plps plp) % spread c.plps plp) 0
    (ap (λ (k : ℕ). k % spread c.plps plp) (multiple n (spread c.plps plp))
    ∙ mul-mod_left (n / spread c.plps plp) (spread c.plps plp))

-- a multiple up to a number is no greater than the last one
last-multiple : (n k p : ℕ) → 0 < p → k % p ≡ 0 → k ≤ n → k ≤ n - n % p
last-multiple n k p some whole low =
    let parts : n / p * p + n % p ≡ n = div-add-mod' n p in
    let own : k / p * p + k % p ≡ k = div-add-mod' k p in
    let rest : n % p < p = mod_below n p some in
    ⊎_elim
    (λ (l : n / p < k / p).
    let more : suc (n / p) * p ≤ k / p * p = mul-le-mul_right p l in
    let turn : suc (n / p) * p ≡ n / p * p + p = omega arith in
    absurd (omega (arith, parts, own, rest, whole, low, more, turn)))
    (λ (l : k / p ≤ n / p).
    let most : k / p * p ≤ n / p * p = mul-le-mul_right p l in
    omega (arith, parts, own, whole, most))
    (cases_lt (n / p) (k / p))

pub begin_last : BeginIsLast
begin_last c plp n k rules inside first low =
    last-multiple n k (spread c.plps plp) (omega (arith, (spread_divides c plp rules inside).0))
    (eqb-true (k % spread c.plps plp) 0 first) low

pub begin_alone : BeginAlone
begin_alone c plp n alone =
    let none : n % spread c.plps plp ≡ 0 = ap (λ (k : ℕ). n % k) alone ∙ mod-one n in
    let parts : n / spread c.plps plp * spread c.plps plp + n % spread c.plps plp ≡ n = div-add-mod'
    n (spread c.plps plp) in
    let times : n / spread c.plps plp * spread c.plps plp ≡ n / spread c.plps plp * 1 =
    ap (λ (k : ℕ). n / spread c.plps plp * k) alone in
    (eq-eqb (n % spread c.plps plp) 0 none, omega (arith, parts, times, none), omega (arith, none))
