-- What is counted.
use Rattle.std.proofs.Common.{◌≡◌, ◌≢◌, ℕ, suc, ◌+◌, ◌-◌, ◌/◌, ◌%◌, ◌^◌, ◌<◌, ◌==◌, Bool, true, false, cond, List, []}
use Rattle.std.proofs.Common.{◌∷◌, ◌++◌, length, refl, ap, sym, ◌∙◌, arith, length-append}
use Rattle.std.specs.List.{filter}
use Rattle.std.proofs.lemmas.Bool.{true≢false, eqb-true}
use Rattle.std.proofs.lemmas.List.Elements.{filter-append}
use Rattle.ts_packet.specs.declared.sizes.TheConstants.{SIZE}
use Rattle.terms.proofs.CaseLemmas.{bool_cases}
use Rattle.mended_frames.specs.Mended.{Made}
use Rattle.mend_run.specs.Counted.{told, is_woven, last_from, span, counted}
use Rattle.mend_run.specs.Shown.{with_frame, with_units, ran_of, first_of, behind_of, tally_of}

first_push : (made : List Made) (x : Made) → cond (told (length made) == 0) x.number (first_of made) ≡ first_of
    (made ++ x ∷ [])
first_push [] x = refl
first_push (y ∷ made) x =
    ap (λ (b : Bool). cond b x.number y.number) (not_zero (length made))
  where
    not_zero : (n : ℕ) → (told (suc n) == 0) ≡ false
    not_zero n = bool_cases (told (suc n) == 0)
        (λ e. absurd (let z = eqb-true (told (suc n)) 0 e in omega (arith, z))) (λ e. e)

last_push : (n : ℕ) (made : List Made) (x : Made) → last_from n (made ++ x ∷ []) ≡ x.number
last_push n [] x = refl
last_push n (y ∷ made) x = last_push y.number made x

behind_push : (made : List Made) (x : Made) → x.number + 1 ≡ behind_of (made ++ x ∷ [])
behind_push [] x = refl
behind_push (y ∷ made) x = ap (λ (n : ℕ). n + 1) (sym (last_push y.number made x))

woven_push : (made : List Made) (x : Made) (t : Bool) → x.is_woven ≡ t
    → cond t (told (told (length (filter is_woven made)) + 1)) (told (length (filter is_woven made)))
    ≡ told (length (filter is_woven (made ++ x ∷ [])))
woven_push made x t e =
    by t ∙ sym (ap (λ (l : List Made). told (length l)) (filter-append is_woven made (x ∷ [])
    ∙ ap (λ (b : Bool). filter is_woven made ++ cond b (x ∷ []) []) e))
  where
    count : List Made
    count = filter is_woven made

    by : (t : Bool) → cond t (told (told (length count) + 1)) (told (length count)) ≡ told
        (length (count ++ cond t (x ∷ []) []))
    by true = let l = length-append count (x ∷ []) in omega (arith, l)
    by false = let l = length-append count [] in omega (arith, l)

-- one frame more
pub tally_frame : (made : List Made) (x : Made) (bytes : List ℕ)
    → with_frame (tally_of made bytes) x.number x.is_woven ≡ tally_of (made ++ x ∷ []) bytes
tally_frame made x bytes =
    let frames : told (told (length made) + 1) ≡ told (length (made ++ x ∷ [])) =
    (let l = length-append made (x ∷ []) in omega (arith, l)) in
    cc (first_push made x, behind_push made x, frames, woven_push made x x.is_woven refl)

-- whole units more
pub tally_units : (made : List Made) (bytes more : List ℕ) (len : ℕ) → length more ≡ len → len % SIZE ≡ 0
    → with_units (tally_of made bytes) (len / SIZE) ≡ tally_of made (bytes ++ more)
tally_units made bytes more len is whole =
    let l = length-append bytes more in
    let units : told (told (length bytes / SIZE) + len / SIZE) ≡ told (length (bytes ++ more) / SIZE) =
    omega (arith, l, is, whole) in
    cc

-- ---- what is told at the end

span_is : (made : List Made) → span made ≡ behind_of made - first_of made
span_is [] = refl
span_is (x ∷ made) = refl

-- frames that are told stand for those that were sent, as far as the numbers go
missing_is : (m n : ℕ) → m < 2 ^ 64 → m - told n ≡ m - n
missing_is m n l = omega (arith, l)

pub ran_is : (made : List Made) (bytes : List ℕ) (units : ℕ) → behind_of made < 2 ^ 64 → length bytes / SIZE ≡ units
    → ran_of (tally_of made bytes) ≡ counted made units
ran_is made bytes units small is =
    let missing = missing_is (behind_of made - first_of made) (length made) (omega (arith, small)) in
    cc (missing, span_is made, is)

-- no frame was told exactly if none was sent
pub none_told : (made : List Made) → (told (length made) == 0) ≡ true → made ≡ []
none_told [] e = refl
none_told (x ∷ made) e = absurd (let z = eqb-true (told (length (x ∷ made))) 0 e in omega (arith, z))

pub some_told : (made : List Made) → (told (length made) == 0) ≡ false → made ≢ []
some_told [] e none = absurd (true≢false e)
some_told (x ∷ made) e none = let l = ap length none in omega (arith, l)
