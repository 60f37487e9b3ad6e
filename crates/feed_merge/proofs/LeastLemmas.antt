-- The least number of the records that wait, and what is taken of it.
use Rattle.std.proofs.Common.{◌≡◌, ℕ, ◌+◌, ◌≤◌, ◌==◌, min, max, Bool, true, false, List, ◌++◌, Option, Some, None}
use Rattle.std.proofs.Common.{refl, ap, sym, subst, ◌∙◌, inl, inr, arith, eqb-true}
use Rattle.std.proofs.lemmas.Bool.{cases_lt, eqb-false, eq-eqb}
use Rattle.std.proofs.lemmas.Option.{same_Some}
use Rattle.terms.proofs.OptionLemmas.{none_some}
use Rattle.frame_groups.specs.Modulated.{FrameRecord}
use Rattle.frame_groups.specs.declared.waiting.Waiting.{Waiting}
use Rattle.feed_merge.specs.Laws.{AreOf}
use Rattle.feed_merge.specs.Picking.{is_at}
use Rattle.feed_merge.specs.Picks.{above_all}
use Rattle.feed_merge.specs.FeedStandsFor.{waiting_of, has_ended}
use Rattle.feed_merge.specs.declared.feed.FrameFeed.{FrameFeed}
use Rattle.feed_merge.specs.Fed.{NoneComes}
use Rattle.feed_merge.specs.Reading.{is_idle, least_of}
use Rattle.feed_merge.specs.Seen.{seen_of}
use Rattle.feed_merge.specs.Skips.{one_if, AreTaken}
use Rattle.feed_merge.proofs.BothFeedLemmas.{idle_none}
use Rattle.feed_merge.proofs.NumberLemmas.{above_append}

-- it is no greater than either
pub least_first : (v w : Option Waiting) (n : ℕ) → least_of v w ≡ Some n → (x : Waiting) → v ≡ Some x → n ≤ x.frame
least_first None w n e x is = none_some x is
least_first (Some v) None n e x is =
    let a = same_Some v.frame n e in
    let b = ap (λ (y : Waiting). y.frame) (same_Some v x is) in
    omega (arith, a, b)
least_first (Some v) (Some w) n e x is =
    let a = same_Some (min v.frame w.frame) n e in
    let b = ap (λ (y : Waiting). y.frame) (same_Some v x is) in
    omega (arith, a, b)

pub least_second : (v w : Option Waiting) (n : ℕ) → least_of v w ≡ Some n → (x : Waiting) → w ≡ Some x → n ≤ x.frame
least_second v None n e x is = none_some x is
least_second None (Some w) n e x is =
    let a = same_Some w.frame n e in
    let b = ap (λ (y : Waiting). y.frame) (same_Some w x is) in
    omega (arith, a, b)
least_second (Some v) (Some w) n e x is =
    let a = same_Some (min v.frame w.frame) n e in
    let b = ap (λ (y : Waiting). y.frame) (same_Some w x is) in
    omega (arith, a, b)

-- what is no greater than either is no greater than it
pub least_most : (v w : Option Waiting) (n m : ℕ) → least_of v w ≡ Some n → ((x : Waiting) → v ≡ Some x → m ≤ x.frame)
    → ((x : Waiting) → w ≡ Some x → m ≤ x.frame) → m ≤ n
least_most None None n m e a b = none_some n e
least_most (Some v) None n m e a b = let s = same_Some v.frame n e in let l = a v refl in omega (arith, s, l)
least_most None (Some w) n m e a b = let s = same_Some w.frame n e in let l = b w refl in omega (arith, s, l)
least_most (Some v) (Some w) n m e a b =
    let s = same_Some (min v.frame w.frame) n e in
    let l = a v refl in
    let k = b w refl in
    omega (arith, s, l, k)

-- none waits
pub least_none : (v w : Option Waiting) → least_of v w ≡ None → (v ≡ None) × (w ≡ None)
least_none None None e = (refl, refl)
least_none (Some v) None e = none_some v.frame (sym e)
least_none None (Some w) e = none_some w.frame (sym e)
least_none (Some v) (Some w) e = none_some (min v.frame w.frame) (sym e)

one_at : (v : Waiting) (n : ℕ) → v.frame ≡ n → one_if (is_at n (seen_of (Some v))) ≡ 1
one_at v n e = ap one_if (eq-eqb v.frame n e)

-- a record of it waits
pub some_taken : (v w : Option Waiting) (n : ℕ) → least_of v w ≡ Some n
    → 1 ≤ one_if (is_at n (seen_of v)) + one_if (is_at n (seen_of w))
some_taken None None n e = none_some n e
some_taken (Some v) None n e = let o = one_at v n (same_Some v.frame n e) in omega (arith, o)
some_taken None (Some w) n e = let o = one_at w n (same_Some w.frame n e) in omega (arith, o)
some_taken (Some v) (Some w) n e = go (v.frame == n) refl
  where
    go : (b : Bool) → (v.frame == n) ≡ b → 1 ≤ one_if (is_at n (seen_of (Some v))) + one_if (is_at n (seen_of (Some w)))
    go true t = let o = one_at v n (eqb-true v.frame n t) in omega (arith, o)
    go false f =
        let s = same_Some (min v.frame w.frame) n e in
        let differ = eqb-false v.frame n f in
        let o = one_at w n (omega (arith, s, differ)) in
        omega (arith, o)

-- what was taken is of that number
pub are_of : (o : Option Waiting) (n : ℕ) (xs : List FrameRecord) → AreTaken (is_at n (seen_of o)) o xs → AreOf n xs
are_of None n xs t = subst (AreOf n) (sym t) tt
are_of (Some w) n xs t = go (w.frame == n) refl t
  where
    go : (b : Bool) → (w.frame == n) ≡ b → AreTaken b (Some w) xs → AreOf n xs
    go true e t = subst (AreOf n) (sym t.only) (t.first.0 ∙ eqb-true w.frame n e)
    go false e t = subst (AreOf n) (sym t) tt

pub above_taken : (o : Option Waiting) (n : ℕ) (xs : List FrameRecord) → AreTaken (is_at n (seen_of o)) o xs
    → (above_all xs ≤ n + 1) × (1 ≤ one_if (is_at n (seen_of o)) → above_all xs ≡ n + 1)
above_taken None n xs t = (let e = ap above_all t in omega (arith, e), λ l. absurd (omega (arith, l)))
above_taken (Some w) n xs t = go (w.frame == n) refl t
  where
    go : (b : Bool) → (w.frame == n) ≡ b → AreTaken b (Some w) xs → (above_all xs ≤ n + 1)
        × (1 ≤ one_if b → above_all xs ≡ n + 1)
    go true e k =
        let a = ap above_all k.only in
        let number : k.one.number ≡ n = k.first.0 ∙ eqb-true w.frame n e in
        let same : above_all xs ≡ n + 1 = omega (arith, a, number) in
        (omega (arith, same), λ _. same)
    go false e k = (let a = ap above_all k in omega (arith, a), λ l. absurd (omega (arith, l)))

-- ---- what becomes of both feeds

-- the number behind all records that were given, with those of the least number
pub next_taken : (v w : Option Waiting) (n next : ℕ) (ga gb xs ys : List FrameRecord) → least_of v w ≡ Some n → next ≤ n
    → next ≡ max (above_all ga) (above_all gb) → AreTaken (is_at n (seen_of v)) v xs
    → AreTaken (is_at n (seen_of w)) w ys
    → n + 1 ≡ max (above_all (ga ++ xs)) (above_all (gb ++ ys))
next_taken v w n next ga gb xs ys least low was a b =
    let x = above_taken v n xs a in
    let y = above_taken w n ys b in
    let few_a = x.0 in
    let few_b = y.0 in
    let some = some_taken v w n least in
    elim (cases_lt 0 (one_if (is_at n (seen_of v)))) [
      | inl one ↦ (let e = x.1 (omega (arith, one)) in omega (
        arith,
        e,
        few_b,
        was,
        low,
        above_append
            ga xs,
        above_append gb ys,
      ))
      | inr none ↦ (let e = y.1 (omega (arith, none, some)) in
          omega (arith, e, few_a, was, low, above_append ga xs, above_append gb ys))
    ]

-- no record waits, so none comes
pub none_comes : (f : FrameFeed) → waiting_of f ≡ None → is_idle (waiting_of f) (has_ended f) ≡ false → NoneComes f
none_comes f none busy = record {
  none = none;
  ended = idle_none (has_ended f) (subst (λ (o : Option Waiting). is_idle o (has_ended f) ≡ false) none busy);
}
