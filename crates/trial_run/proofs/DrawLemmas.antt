-- One draw more, and one packet more.
use Rattle.std.proofs.Common.{◌≡◌, ◌+◌, ◌%◌, ◌^◌, ◌++◌, ◌∷◌, [], ℕ, zero, suc, List, map, sym, ap, ◌∙◌, arith}
use Rattle.std.proofs.Common.{append-nil}
use Rattle.std.specs.List.{flat_map, range_with_len}
use Rattle.std.proofs.Math.Nat.{mod-add-mod}
use Rattle.std.proofs.lemmas.Grind.{flat_map-append}
use Rattle.std.proofs.lemmas.List.{map-append, append_assoc}
use Rattle.std.proofs.lemmas.List.FromFn.{map-range_with_len_more}
use Rattle.terms.proofs.RangeLemmas.{places_more}
use Rattle.trial_run.specs.Draws.{after_one, drawn, after, draws_from}
use Rattle.trial_run.specs.TrialInput.{bytes_from, packet_from, draws_for, behind, packets_from}
use Rattle.trial_run.specs.declared.input.TheConstants.{BYTE_VALUES}

pub wrapped : (a b : ℕ) → (a % 2 ^ 64 + b) % 2 ^ 64 ≡ (a + b) % 2 ^ 64
wrapped a b = mod-add-mod a (2 ^ 64) b

pub after_more : (n x : ℕ) → after (n + 1) x ≡ after_one (after n x)
unfolding after
after_more n x = let e : n + 1 ≡ suc n = omega arith in ap (λ (m : ℕ). after m x) e

-- the first draw in front
pub after_first : (n x : ℕ) → after (n + 1) x ≡ after n (after_one x)
unfolding after
after_first zero x = let e : 0 + 1 ≡ suc 0 = omega arith in ap (λ (m : ℕ). after m x) e
after_first (suc n) x = after_more (suc n) x ∙ ap after_one (let e : n + 1 ≡ suc n = omega arith in
    sym (ap (λ (m : ℕ). after m x) e) ∙ after_first n x)

pub bytes_more : (n x : ℕ) → bytes_from (n + 1) x ≡ bytes_from n x ++ (drawn (after n x) % BYTE_VALUES) ∷ []
unfolding bytes_from draws_from
bytes_more n x =
    let f : ℕ → ℕ = λ k. drawn (after k x) in
    let g : ℕ → ℕ = λ draw. draw % BYTE_VALUES in
    ap (map g) (map-range_with_len_more f 0 n n (omega arith)) ∙ map-append g (map f (range_with_len 0 n)) (f n ∷ [])

-- one byte more behind others
pub byte_pushed : (old was now : List ℕ) (n x before later draw : ℕ) → was ≡ old ++ bytes_from n x → before ≡ after n x
    → draw ≡ drawn before → now ≡ was ++ (draw % BYTE_VALUES) ∷ [] → later ≡ after_one before
    → (now ≡ old ++ bytes_from (n + 1) x) × (later ≡ after (n + 1) x)
byte_pushed old was now n x before later draw was_is before_is draw_is now_is later_is = (
  now_is ∙ rw (was_is, draw_is, before_is) (append_assoc old (bytes_from n x) ((drawn (after n x) % BYTE_VALUES) ∷ []))
      ∙ ap (λ (l : List ℕ). old ++ l) (sym (bytes_more n x)),
  later_is ∙ ap after_one before_is ∙ sym (after_more n x),
)

pub behind_more : (n x : ℕ) → behind (n + 1) x ≡ after (draws_for (behind n x)) (behind n x)
unfolding behind
behind_more n x = let e : n + 1 ≡ suc n = omega arith in ap (λ (m : ℕ). behind m x) e

pub packets_more : (plp n x : ℕ) → packets_from plp (n + 1) x ≡ packets_from plp n x ++ packet_from plp n (behind n x)
unfolding packets_from
packets_more plp n x =
    let f : ℕ → List ℕ = λ number. packet_from plp number (behind number x) in
    ap (flat_map f) (places_more n) ∙ flat_map-append f (range_with_len 0 n) (n ∷ [])
    ∙ ap (λ (l : List ℕ). flat_map f (range_with_len 0 n) ++ l) (append-nil (f n))
