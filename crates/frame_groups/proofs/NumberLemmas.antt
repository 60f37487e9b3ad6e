-- The least number above that has a key.
use Rattle.std.proofs.Common.{◌≡◌, refl, ℕ, zero, suc, ◌+◌, ◌-◌, ◌*◌, ◌/◌, ◌%◌, ◌<◌, ◌≤◌, Bool, true, false, ap}
use Rattle.std.proofs.Common.{ap₂, sym, subst, ◌∙◌, ⊎_elim, arith, mul-le-mul_left, mul-le-mul_right}
use Rattle.std.proofs.lemmas.Bool.{cases_eq, cases_lt, cond-true, cond-false, eqb-true, eq-eqb, and_parts, and_from}
use Rattle.std.proofs.lemmas.Bool.{false_from_ne_true, true≢false}
use Rattle.std.proofs.lemmas.Nat.{div-mul-add, mod-mul-add, div_below, div-add-mod', mod_below}
use Rattle.frame_groups.specs.Groups.{is_same}
use Rattle.frame_groups.specs.declared.key.Key.{Key}
use Rattle.frame_groups.specs.Numbers.{frame_key, first_from, next_number, IsKey, next_by, IsNext}

-- the first number that passes
first_is : (f : ℕ → Bool) (steps n m : ℕ) → n ≤ m → m < n + steps → f m ≡ true → ((i : ℕ) → n ≤ i → i < m → f i ≡ false)
    → first_from f steps n ≡ m
first_is f zero n m low high here none = absurd (omega arith)
first_is f (suc steps) n m low high here none =
    ⊎_elim
    (λ (e : n ≡ m). cond-true (f n) n (first_from f steps (n + 1)) (ap f e ∙ here) ∙ e)
    (λ (d : n ≡ m → ⊥).
    let less : n < m = omega (arith, d) in
    cond-false (f n) n (first_from f steps (n + 1)) (none n (omega arith) less)
    ∙ first_is f steps (n + 1) m (omega arith) (omega arith) here (λ i a b. none i (omega arith) b))
    (cases_eq n m)

pub same_key : (k l : Key) → is_same k l ≡ true → k ≡ l
same_key k l e = grind (arith, and_parts, eqb-true, ap₂)

pub is_same_self : (k l : Key) → k ≡ l → is_same k l ≡ true
is_same_self k l e = grind (arith, and_from, eq-eqb)

-- keys come again after 16 superframes
key_at : (frames q s f : ℕ) → s < 16 → f < frames → frame_key frames (16 * frames * q + (s * frames + f))
    ≡ record { superframe = s; frame = f }
key_at frames q s f a b =
    let e : 16 * frames * q + (s * frames + f) ≡ (q * 16 + s) * frames + f = omega arith in
    let d : (16 * frames * q + (s * frames + f)) / frames ≡ q * 16 + s = ap (λ (n : ℕ). n / frames) e
    ∙ div-mul-add (q * 16 + s) frames f b in
    let m : (16 * frames * q + (s * frames + f)) % frames ≡ f = ap (λ (n : ℕ). n % frames) e
    ∙ mod-mul-add (q * 16 + s) frames f b in
    let t : ((16 * frames * q + (s * frames + f)) / frames) % 16 ≡ s = ap (λ (n : ℕ). n % 16) d ∙ omega (arith, a) in
    ap₂ (λ (s f : ℕ). record { superframe = s; frame = f }) t m

-- a number with a key, by its round
at_key : (frames n : ℕ) (k : Key) → frame_key frames n ≡ k → 0 < frames → n ≡ 16 * frames * (n / frames / 16)
    + (k.superframe * frames + k.frame)
at_key frames n k e some =
    let s : (n / frames) % 16 ≡ k.superframe = ap (λ (k : Key). k.superframe) e in
    let f : n % frames ≡ k.frame = ap (λ (k : Key). k.frame) e in
    let d = div-add-mod' n frames in
    let r : n / frames ≡ (n / frames / 16) * 16 + k.superframe = omega (arith, s) in
    let x : n / frames * frames ≡ ((n / frames / 16) * 16 + k.superframe) * frames = ap (λ (q : ℕ). q * frames) r in
    omega (arith, d, f, x)

-- two numbers with a key lie a whole number of rounds apart
apart : (d q r x i n : ℕ) → d * r + x < d * q + x → i ≡ d * r + x → d * q + x ≤ n + d → i ≤ n
apart d q r x i n less e top = grind (arith, mul-le-mul_left, cases_lt)

-- where the closed form lies
pub record Round (d x n m : ℕ) : Type 0 where
  pub round : ℕ
  pub value : m ≡ d * round + x
  pub above : n < m
  pub below : m ≤ n + d

round_of : (d x n : ℕ) → x < d → Round d x n (n + 1 + (x + d * (n + 1) - (n + 1)) % d)
round_of d x n small =
    let some : 0 < d = omega arith in
    let one : 1 ≤ d = omega (arith, some) in
    let times : 1 * (n + 1) ≤ d * (n + 1) = mul-le-mul_right (n + 1) one in
    let big : n + 1 ≤ d * (n + 1) = omega (arith, times) in
    let a : ℕ = x + d * (n + 1) - (n + 1) in
    let split : a / d * d + a % d ≡ a = div-add-mod' a d in
    let rest : a % d < d = mod_below a d some in
    let few : a / d < n + 2 = div_below a d (n + 2) some (omega (arith, small)) in
    let le : a / d ≤ n + 1 = omega arith in
    record {
      round = n + 1 - a / d;
      value =
          let e : (n + 1 - a / d) + a / d ≡ n + 1 = omega arith in
          let f : d * ((n + 1 - a / d) + a / d) ≡ d * (n + 1) = ap (λ (k : ℕ). d * k) e in
          omega (arith, f, split, big);
      above = omega arith;
      below = omega (arith, rest);
    }

pub next_law : (frames n : ℕ) (k : Key) → IsKey frames k → IsNext frames n k (next_number frames n k)
    × (next_number frames n k ≡ next_by frames n k)
unfolding next_number
next_law frames n k h = (subst (IsNext frames n k) (sym first) is_next, first)
  where
    x : ℕ
    x = k.superframe * frames + k.frame

    small : x < 16 * frames
    small =
        let above : k.superframe + 1 ≤ 16 = omega (arith, h.superframe) in
        let g : (k.superframe + 1) * frames ≤ 16 * frames = mul-le-mul_right frames above in
        omega (arith, g, h.frame)

    some : 0 < frames
    some = omega (arith, h.frame)

    r : Round (16 * frames) x n (next_by frames n k)
    r = round_of (16 * frames) x n small

    has : frame_key frames (next_by frames n k) ≡ k
    has = ap (frame_key frames) r.value ∙ key_at frames r.round k.superframe k.frame h.superframe h.frame

    never : (i : ℕ) → n < i → i < next_by frames n k → i ≡ 16 * frames * (i / frames / 16) + x → ⊥
    never i a b at =
        let less : 16 * frames * (i / frames / 16) + x < 16 * frames * r.round + x = omega (arith, at, b, r.value) in
        let no : i ≤ n = apart (16 * frames) r.round (i / frames / 16) x i n less at
        (omega (arith, r.value, r.below)) in
        omega arith

    least : (i : ℕ) → n < i → i < next_by frames n k → is_same (frame_key frames i) k ≡ false
    least i a b = false_from_ne_true _ (λ e. never i a b (at_key frames i k (same_key (frame_key frames i) k e) some))

    is_next : IsNext frames n k (next_by frames n k)
    is_next = record { above = r.above; has = has; least = least }

    first : first_from (λ i. is_same (frame_key frames i) k) (16 * frames) (n + 1) ≡ next_by frames n k
    first = first_is (λ i. is_same (frame_key frames i) k) (16 * frames) (n + 1) (next_by frames n k)
        (omega (arith, r.above))
        (omega (arith, r.below)) (is_same_self _ k has) (λ i a b. least i (omega (arith, a)) b)

-- a number with the key of a later frame, if that is nearer than keys come again
one_round : (d x q r n next m : ℕ) → next ≡ d * q + x → m ≡ d * r + x → n < next → next ≤ m → m < n + d → next ≡ m
one_round d x q r n next m a b low up near = grind (arith, mul-le-mul_left, cases_eq, cases_lt)

pub found : (frames n m : ℕ) → 0 < frames → n < m → m < n + 16 * frames → next_number frames n (frame_key frames m) ≡ m
found frames n m some low near =
    let k : Key = frame_key frames m in
    let is : IsKey frames k = record {
      superframe = mod_below (m / frames) 16 (omega arith);
      frame =
          mod_below m frames some;
    } in
    let next : ℕ = next_number frames n k in
    let l : IsNext frames n k next = (next_law frames n k is).0 in
    let up : next ≤ m =
    ⊎_elim
    (λ (early : m < next). absurd (true≢false (sym (is_same_self k k refl) ∙ l.least m low early)))
    (λ (h : next ≤ m). h)
    (cases_lt m next) in
    one_round (16 * frames) (k.superframe * frames + k.frame) (next / frames / 16) (m / frames / 16) n next m
    (at_key frames next k l.has some) (at_key frames m k refl some) l.above up near
