-- Bytes that go behind those that wait.
use Rattle.std.proofs.Common.{◌≡◌, ℕ, ◌+◌, ◌≤◌, List, ◌++◌, take, drop, length, ap, ◌∙◌, take-add}
use Rattle.std.proofs.lemmas.List.{take_at, drop_at, take-append-le, length-take-le}

pub put_behind : (xs ys zs : List ℕ) (m n : ℕ) → m ≤ length xs → n ≤ length ys → take (m + n) (take m xs ++ (ys ++ zs))
    ≡ take m xs ++ take n ys
put_behind xs ys zs m n low few =
    let front : length (take m xs) ≡ m = length-take-le m xs low in
    take-add m n (take m xs ++ (ys ++ zs)) ∙ ap (λ (l : List ℕ). l ++ take n (drop m (take m xs ++ (ys ++ zs))))
    (take_at (take m xs) (ys ++ zs) m front)
    ∙ ap (λ (l : List ℕ). take m xs ++ take n l) (drop_at (take m xs) (ys ++ zs) m front)
    ∙ ap (λ (l : List ℕ). take m xs ++ l) (take-append-le n ys zs few)
