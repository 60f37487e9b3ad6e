-- What two feeds want next.
use Rattle.std.proofs.Common.{◌≡◌, ℕ, ◌<◌, ◌≤◌, Bool, true, false, cond, Option, Some, None, refl, sym, arith}
use Rattle.std.specs.Prelude.{nat_lt}
use Rattle.std.proofs.lemmas.Bool.{true≢false, ltb-true, ltb-false}
use Rattle.std.proofs.lemmas.Option.{same_Some}
use Rattle.terms.proofs.OptionLemmas.{none_some}
use Rattle.plp_config.specs.declared.moment.TheConstants.{MOST_FRAMES}
use Rattle.frame_groups.specs.declared.waiting.Waiting.{Waiting}
use Rattle.file_run.specs.Steps.{Needs, Suffices, FallsShort}
use Rattle.file_run.specs.declared.machine.Step.{Step}
use Rattle.file_run.specs.declared.machine.Step.TheVariants.{Read, Give, End}
use Rattle.file_run.specs.FileRun.{read_ahead}
use Rattle.feed_merge.specs.Reading.{is_idle, wants_of, step_at, step_by, least_of}

pub idle_is : (o : Option Waiting) (e : Bool) → is_idle o e ≡ true → (o ≡ None) × (e ≡ false)
idle_is None true i = absurd (true≢false (sym i))
idle_is None false i = (refl, refl)
idle_is (Some w) e i = absurd (true≢false (sym i))

-- No record waits of an input, which has not ended, and bytes of it are wanted.
pub record IsIdle (o : Option Waiting) (e : Bool) : Type 0 where
  pub none : o ≡ None
  pub going : e ≡ false

pub data Wants (v : Option Waiting) (e : Bool) (w : Option Waiting) (f : Bool) (input : ℕ) : Type 0 where
  First : 0 ≡ input → IsIdle v e → Wants v e w f input
  Second : 1 ≡ input → IsIdle w f → Wants v e w f input

idle_of : (o : Option Waiting) (e : Bool) → is_idle o e ≡ true → IsIdle o e
idle_of o e i = let p = idle_is o e i in record { none = p.0; going = p.1 }

-- what is asked of a reading step, and of no other
module _ (Asks : Step → ℕ → ℕ → Type 0) (of : (at input count : ℕ) → Asks (wants_of at) input count → at ≡ input)
    (not_give : (input count : ℕ) → Asks Give input count → ⊥) (not_end : (input count : ℕ) → Asks End input count
    → ⊥) where
  asks_none : (o : Option ℕ) (input count : ℕ) → Asks (step_at o) input count → ⊥
  asks_none None input count h = not_give input count h
  asks_none (Some n) input count h = go (nat_lt n MOST_FRAMES) h
    where
      go : (b : Bool) → Asks (cond b Give End) input count → ⊥
      go true h = not_give input count h
      go false h = not_end input count h

  pub asks_by : (v : Option Waiting) (e : Bool) (w : Option Waiting) (f : Bool) (input count : ℕ)
      → Asks (step_by v e w f) input count
      → Wants v e w f input
  asks_by v e w f input count h = go (is_idle v e) (is_idle w f) refl refl h
    where
      go : (s t : Bool) → is_idle v e ≡ s → is_idle w f ≡ t
          → Asks (cond s (wants_of 0) (cond t (wants_of 1) (step_at (least_of v w)))) input count → Wants v e w f input
      go true t i j h = First (of 0 input count h) (idle_of v e i)
      go false true i j h = Second (of 1 input count h) (idle_of w f j)
      go false false i j h = absurd (asks_none (least_of v w) input count h)

  -- and how much is asked is asked of such a step
  pub step_asked : (v : Option Waiting) (e : Bool) (w : Option Waiting) (f : Bool) (input count : ℕ)
      → Asks (step_by v e w f) input count → (at : ℕ) × Asks (wants_of at) input count
  step_asked v e w f input count h = go (is_idle v e) (is_idle w f) h
    where
      go : (s t : Bool) → Asks (cond s (wants_of 0) (cond t (wants_of 1) (step_at (least_of v w)))) input count
          → (at : ℕ) × Asks (wants_of at) input count
      go true t h = (0, h)
      go false true h = (1, h)
      go false false h = absurd (asks_none (least_of v w) input count h)

-- so many bytes of an input are wanted
pub needs_by : (v : Option Waiting) (e : Bool) (w : Option Waiting) (f : Bool) (input count : ℕ)
    → Needs (step_by v e w f) input count
    → Wants v e w f input × (count ≤ 1)
needs_by v e w f input count h =
    let s = step_asked Needs (λ at i k n. n.0) (λ i k n. n) (λ i k n. n) v e w f input count h in
    (asks_by Needs (λ at i k n. n.0) (λ i k n. n) (λ i k n. n) v e w f input count h, s.1.1)

pub short_by : (v : Option Waiting) (e : Bool) (w : Option Waiting) (f : Bool) (input count : ℕ)
    → FallsShort (step_by v e w f) input count → Wants v e w f input × (count ≡ 0)
short_by v e w f input count h =
    let s = step_asked FallsShort (λ at i k n. n.0) (λ i k n. n) (λ i k n. n) v e w f input count h in
    let l = s.1.1 in
    (asks_by FallsShort (λ at i k n. n.0) (λ i k n. n) (λ i k n. n) v e w f input count h, omega (arith, l))

pub suffices_by : (v : Option Waiting) (e : Bool) (w : Option Waiting) (f : Bool) (input count : ℕ)
    → Suffices (step_by v e w f) input count → Wants v e w f input × (0 < count)
suffices_by v e w f input count h =
    let s = step_asked Suffices (λ at i k n. n.0) (λ i k n. n) (λ i k n. n) v e w f input count h in
    let l = s.1.1 in
    (asks_by Suffices (λ at i k n. n.0) (λ i k n. n) (λ i k n. n) v e w f input count h, omega (arith, l))

-- of input 0, and of another one
pub first_wanted : {v : Option Waiting} {e : Bool} {w : Option Waiting} {f : Bool} {input : ℕ} → Wants v e w f input
    → input ≡ 0
    → IsIdle v e
first_wanted (First at idle) is = idle
first_wanted (Second at idle) is = absurd (omega (arith, at, is))

pub second_wanted : {v : Option Waiting} {e : Bool} {w : Option Waiting} {f : Bool} {input : ℕ} → Wants v e w f input
    → (input ≡ 0 → ⊥)
    → IsIdle w f × (input ≡ 1)
second_wanted (First at idle) differ = absurd (differ (sym at))
second_wanted (Second at idle) differ = (idle, sym at)

-- ---- it gives

-- Both feeds have a record that waits, or have ended; and it has a number that one may have.
pub record GoesOn (v : Option Waiting) (e : Bool) (w : Option Waiting) (f : Bool) : Type 0 where
  pub first : is_idle v e ≡ false
  pub second : is_idle w f ≡ false
  pub early : (n : ℕ) → least_of v w ≡ Some n → n < MOST_FRAMES

pub goes_on : (v : Option Waiting) (e : Bool) (w : Option Waiting) (f : Bool) → step_by v e w f ≡ Give → GoesOn v e w f
goes_on v e w f h = go (is_idle v e) (is_idle w f) refl refl h
  where
    early : (o : Option ℕ) → step_at o ≡ Give → (n : ℕ) → o ≡ Some n → n < MOST_FRAMES
    early None h n is = none_some n is
    early (Some k) h n is = less (nat_lt k MOST_FRAMES) refl h
      where
        less : (b : Bool) → nat_lt k MOST_FRAMES ≡ b → cond b Give End ≡ Give → n < MOST_FRAMES
        less true l h = let a = ltb-true k MOST_FRAMES l in let s = same_Some k n is in omega (arith, a, s)
        less false l h = absurd (let z : End ≡ Give = h in cc)

    go : (s t : Bool) → is_idle v e ≡ s → is_idle w f ≡ t
        → cond s (wants_of 0) (cond t (wants_of 1) (step_at (least_of v w))) ≡ Give
        → GoesOn v e w f
    go true t i j h = absurd (let z : Read 0 1 read_ahead ≡ Give = h in cc)
    go false true i j h = absurd (let z : Read 1 1 read_ahead ≡ Give = h in cc)
    go false false i j h = record { first = i; second = j; early = early (least_of v w) h }

-- ---- it has come to its end

-- A record waits that none may have, and no lower one.
pub record IsLate (v : Option Waiting) (e : Bool) (w : Option Waiting) (f : Bool) : Type 0 where
  pub first : is_idle v e ≡ false
  pub second : is_idle w f ≡ false
  pub least : ℕ
  pub is : least_of v w ≡ Some least
  pub late : MOST_FRAMES ≤ least

pub is_late : (v : Option Waiting) (e : Bool) (w : Option Waiting) (f : Bool) → step_by v e w f ≡ End → IsLate v e w f
is_late v e w f h = go (is_idle v e) (is_idle w f) refl refl h
  where
    go : (s t : Bool) → is_idle v e ≡ s → is_idle w f ≡ t
        → cond s (wants_of 0) (cond t (wants_of 1) (step_at (least_of v w))) ≡ End
        → IsLate v e w f
    go true t i j h = absurd (let z : Read 0 1 read_ahead ≡ End = h in cc)
    go false true i j h = absurd (let z : Read 1 1 read_ahead ≡ End = h in cc)
    go false false i j h = by (least_of v w) refl h
      where
        by : (o : Option ℕ) → least_of v w ≡ o → step_at o ≡ End → IsLate v e w f
        by None is h = absurd (let z : Give ≡ End = h in cc)
        by (Some n) is h = last (nat_lt n MOST_FRAMES) refl h
          where
            last : (b : Bool) → nat_lt n MOST_FRAMES ≡ b → cond b Give End ≡ End → IsLate v e w f
            last true l h = absurd (let z : Give ≡ End = h in cc)
            last false l h =
                let a = ltb-false n MOST_FRAMES l in
                record { first = i; second = j; least = n; is = is; late = omega (arith, a) }
