-- One unit more.
use Rattle.std.proofs.Common.{◌≡◌, ◌+◌, ◌++◌, ◌∷◌, [], ℕ, List, ap, sym, ◌∙◌, append-nil}
use Rattle.std.specs.List.{flat_map, range_with_len}
use Rattle.std.proofs.lemmas.Grind.{flat_map-append}
use Rattle.terms.proofs.RangeLemmas.{places_more}
use Rattle.trial_run.specs.Draws.{after_one, drawn, after}
use Rattle.trial_run.specs.Losses.{kept_by, kept_of, kept_of_first}
use Rattle.trial_run.proofs.DrawLemmas.{after_more}

pub kept_more : (x : ℕ) (stream : List ℕ) (n : ℕ) → kept_of_first x stream (n + 1) ≡ kept_of_first x stream n
    ++ kept_of x stream n
unfolding kept_of_first
kept_more x stream n =
    let f = kept_of x stream in
    ap (flat_map f) (places_more n) ∙ flat_map-append f (range_with_len 0 n) (n ∷ [])
    ∙ ap (λ (l : List ℕ). flat_map f (range_with_len 0 n) ++ l) (append-nil (f n))

-- what is read of one unit more behind others
pub unit_pushed : (stream was now : List ℕ) (n x before later draw : ℕ) → was ≡ kept_of_first x stream n
    → before ≡ after n x
    → draw ≡ drawn before → now ≡ was ++ kept_by stream n draw → later ≡ after_one before
    → (now ≡ kept_of_first x stream (n + 1)) × (later ≡ after (n + 1) x)
unit_pushed stream was now n x before later draw was_is before_is draw_is now_is later_is = (
  now_is ∙ rw (was_is, draw_is, before_is) (sym (kept_more x stream n)),
  later_is ∙ ap after_one before_is
      ∙ sym (after_more n x),
)
