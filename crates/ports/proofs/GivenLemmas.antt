-- How many bytes the reads of a file gave, after one more handle and after one more read.
use Rattle.std.proofs.Common.{◌≡◌, ℕ, ◌+◌, ◌-◌, ◌^◌, ◌<◌, min, Bool, true, false, zero, suc, cond, List, [], ◌∷◌, ◌++◌}
use Rattle.std.proofs.Common.{length, take, map, set, get_or, ap, sym, ◌∙◌, arith, string_bytes, add_assoc}
use Rattle.std.proofs.lemmas.List.{take_more, length-map}
use Rattle.std.specs.Str.{bytes_eq}
use Rattle.ports.specs.declared.memory_files.Handle.{Handle}
use Rattle.ports.specs.MemoryDesk.{given_by}
use Rattle.ports.proofs.HandleLemmas.{name_of, place_of, map-set_moved, map-set_stayed}

-- what the reads through handles gave of a name
abbrev of_handles : List ℕ → List Handle → ℕ
of_handles name xs = given_by name (map name_of xs) (map place_of xs)

given_by-snoc : (name : List ℕ) (xs : List Handle) (x : Handle) → of_handles name (xs ++ x ∷ []) ≡ of_handles name xs
    + cond {A = ℕ} (bytes_eq (name_of x) name) x.place 0
given_by-snoc name [] x = let b : ℕ = cond {A = ℕ} (bytes_eq (name_of x) name) x.place 0 in let e : b + 0 ≡ 0 + b =
    omega arith in
    e
given_by-snoc name (y ∷ ys) x =
    let b : ℕ = cond {A = ℕ} (bytes_eq (name_of y) name) y.place 0 in
    ap (λ (k : ℕ). b + k) (given_by-snoc name ys x)
    ∙ sym (add_assoc b (of_handles name ys) (cond {A = ℕ} (bytes_eq (name_of x) name) x.place 0))

-- one more handle that was looked at
pub given_by_more : (name : List ℕ) (xs : List Handle) (i : ℕ) (x : Handle) → i < length xs → x ≡ get_or xs i x →
    given_by name (map name_of (take (i + 1) xs)) (map place_of (take (i + 1) xs))
    ≡ given_by name (map name_of (take i xs)) (map place_of (take i xs)) + cond {A = ℕ} (bytes_eq (name_of x) name)
    x.place 0
given_by_more name xs i x inside is =
    ap (of_handles name) (take_more xs i x inside ∙ ap (λ (y : Handle). take i xs ++ y ∷ []) (sym is))
    ∙ given_by-snoc name (take i xs) x

more_first : (b : Bool) (p n given : ℕ) → cond {A = ℕ} b (p + n) 0 + given ≡ (cond {A = ℕ} b p 0 + given) + cond
    {A = ℕ} b n 0
more_first true p n given = omega arith
more_first false p n given = omega arith

-- a handle that was read on by n
given_by-set : (name : List ℕ) (names : List (List ℕ)) (places : List ℕ) (at n : ℕ) → at < length names
    → at < length places →
    given_by name names (set places at (get_or places at 0 + n)) ≡ given_by name names places
    + cond {A = ℕ} (bytes_eq (get_or names at []) name) n 0
given_by-set name [] places at n inside _ = absurd (omega arith)
given_by-set name (m ∷ names) [] at n _ inside = absurd (omega arith)
given_by-set name (m ∷ names) (p ∷ places) zero n _ _ =
    let given : ℕ = given_by name names places in
    more_first (bytes_eq m name) p n given
given_by-set name (m ∷ names) (p ∷ places) (suc at) n in_names in_places =
    let first : ℕ = cond {A = ℕ} (bytes_eq m name) p 0 in
    ap (λ (k : ℕ). first + k) (given_by-set name names places at n (omega arith) (omega arith))
    ∙ sym (add_assoc first (given_by name names places) (cond {A = ℕ} (bytes_eq (get_or names at []) name) n 0))

-- the reads of files gave n more by the handle's own name, once the handle x was read on to y
pub gives_on : (xs : List Handle) (at n : ℕ) (x y : Handle) (name : List ℕ) → at < length xs → x ≡ get_or xs at x
    → y.name ≡ x.name → y.place ≡ x.place + n →
    given_by name (map name_of (set xs at y)) (map place_of (set xs at y))
    ≡ given_by name (map name_of xs) (map place_of xs) + cond {A = ℕ} (bytes_eq (get_or (map name_of xs) at []) name)
    n 0
gives_on xs at n x y name came is called moved =
    let names : map name_of (set xs at y) ≡ map name_of xs = map-set_stayed name_of xs at x y is
    (ap string_bytes called) in
    let places : map place_of (set xs at y) ≡ set (map place_of xs) at (get_or (map place_of xs) at 0 + n) =
    map-set_moved place_of xs at n x y came is moved in
    rw (names, places) (given_by-set name (map name_of xs) (map place_of xs) at n (rw length-map came)
    (rw length-map came))

-- the sum so far, if the handle is of the name
pub counted : (is : Bool) (before now total more place : ℕ) → is ≡ true → more ≡ total + cond {A = ℕ} is place 0
    → before ≡ min (2 ^ 64 - 1) total
    → now ≡ min (before + place) (2 ^ 64 - 1) → now ≡ min (2 ^ 64 - 1) more
counted is before now total more place e step so_far then = let m : more ≡ total + place =
    step ∙ ap (λ (b : Bool). total + cond {A = ℕ} b place 0) e in omega arith

-- and if it is of another one
pub passed : (is : Bool) (before now total more place : ℕ) → is ≡ false → more ≡ total + cond {A = ℕ} is place 0
    → before ≡ min (2 ^ 64 - 1) total
    → now ≡ before → now ≡ min (2 ^ 64 - 1) more
passed is before now total more place e step so_far then = let m : more ≡ total + 0 =
    step ∙ ap (λ (b : Bool). total + cond {A = ℕ} b place 0) e in omega arith
