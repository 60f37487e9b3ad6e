-- Ranges, searches behind a filter, and a place that gets its packet.
use Rattle.std.proofs.Common.{◌≡◌, ◌≢◌, ℕ, zero, suc, ◌+◌, ◌-◌, ◌<◌, ◌≤◌, Bool, true, false, List, [], ◌∷◌, map}
use Rattle.std.proofs.Common.{replicate, Option, Some, None, refl, ap, ap₂, ◌∙◌, sym, arith, inl, inr, cond}
use Rattle.std.specs.List.{AllByRecursion, range_with_len, find, filter}
use Rattle.std.proofs.lemmas.Bool.{cases_eq}
use Rattle.terms.proofs.RangeLemmas.{map_same}
use Rattle.plp_receiver.specs.Filling.{filled}

pub map_none : {X : Type 0} (f : ℕ → Option X) (n a : ℕ) → ((k : ℕ) → a ≤ k → k < a + n → f k ≡ None)
    → map f (range_with_len a n)
    ≡ replicate n None
map_none f zero a h = refl
map_none f (suc n) a h =
    ap₂ (λ x l. x ∷ l) (h a (omega arith) (omega arith))
    (map_none f n (a + 1) (λ k l m. h k (omega arith) (omega arith)))

-- none of those that pass is the one that is looked for
pub none_found : {X : Type 0} (p test : X → Bool) (xs : List X) → AllByRecursion (λ x. p x ≡ true → test x ≡ false) xs
    → find test (filter p xs) ≡ None
none_found p test [] h = refl
none_found {X} p test (x ∷ xs) h = go (p x) refl (none_found p test xs h.1)
  where
    go : (b : Bool) → p x ≡ b → find test (filter p xs) ≡ None
        → find test (cond b (x ∷ filter p xs) (filter p xs)) ≡ None
    go false e n = n
    go true e n = ap (λ (t : Bool). cond t (Some x) (find test (filter p xs))) (h.0 e) ∙ n

filled_suc : (x : Option (List ℕ)) (l : List (Option (List ℕ))) (m : ℕ) (p : List ℕ)
    → filled (x ∷ l) (suc m) p ≡ x ∷ filled l m p
filled_suc None l m p = refl
filled_suc (Some y) l m p = refl

-- one place more has its packet
pub put_list : (f g : ℕ → Option (List ℕ)) (k : ℕ) (p : List ℕ) (n a : ℕ) → a ≤ k → ((j : ℕ) → j ≢ k → g j ≡ f j)
    → (f k ≡ None → g k ≡ Some p) → ((q : List ℕ) → f k ≡ Some q → g k ≡ f k)
    → map g (range_with_len a n) ≡ filled (map f (range_with_len a n)) (k - a) p
put_list f g k p zero a l other none some = refl
put_list f g k p (suc n) a l other none some =
    elim (cases_eq k a) [
      | inl e ↦ here e (f k) refl
      | inr ne ↦
          let q : k - a ≡ suc (k - (a + 1)) = omega (arith, ne) in
          ap₂ (λ (x : Option (List ℕ)) (l : List (Option (List ℕ))). x ∷ l) (other a (λ (e : a ≡ k). ne (sym e)))
          (put_list f g k p n (a + 1) (omega (arith, ne)) other none some)
          ∙ sym (ap (λ (m : ℕ). filled (f a ∷ map f (range_with_len (a + 1) n)) m p) q
          ∙ filled_suc (f a) (map f (range_with_len (a + 1) n)) (k - (a + 1)) p)
    ]
  where
    rest : k ≡ a → map g (range_with_len (a + 1) n) ≡ map f (range_with_len (a + 1) n)
    rest e = map_same g f (a + 1) n (λ j x y. other j (λ (d : j ≡ k). omega (arith, d, e)))

    at : k ≡ a → (o : Option (List ℕ)) → f k ≡ o → filled (map f (range_with_len a (suc n))) (k - a) p
        ≡ filled (o ∷ map f (range_with_len (a + 1) n)) 0 p
    at e o h =
        let z : k - a ≡ 0 = omega (arith, e) in
        ap₂ (λ (m : ℕ) (x : Option (List ℕ)). filled (x ∷ map f (range_with_len (a + 1) n)) m p) z (ap f (sym e) ∙ h)

    here : k ≡ a → (o : Option (List ℕ)) → f k ≡ o → map g (range_with_len a (suc n)) ≡ filled
        (map f (range_with_len a (suc n)))
        (k - a) p
    here e None h = ap₂ (λ (x : Option (List ℕ)) (l : List (Option (List ℕ))). x ∷ l) (ap g (sym e) ∙ none h) (rest e)
        ∙ sym (at e None h)
    here e (Some q) h = ap₂ (λ (x : Option (List ℕ)) (l : List (Option (List ℕ))). x ∷ l) (ap g (sym e)
        ∙ some q h ∙ h) (rest e)
        ∙ sym (at e (Some q) h)
