-- Streams together again, slot by slot.
use Rattle.std.proofs.Common.{◌≡◌, ℕ, zero, suc, ◌+◌, ◌<◌, List, [], ◌∷◌, ◌++◌, length, map, Some, refl, ap, ap₂, sym}
use Rattle.std.proofs.Common.{◌∙◌, arith}
use Rattle.std.proofs.Common.{length-append}
use Rattle.std.specs.Prelude.{slice_get}
use Rattle.std.specs.List.{range_with_len}
use Rattle.std.proofs.lemmas.List.{get_or_append_left, get_or-append-add}
use Rattle.std.proofs.lemmas.List.FromFn.{length-map-range_with_len, get_or-map-range_with_len}
use Rattle.std.proofs.lemmas.Option.{slice_get-get_or}
use Rattle.terms.proofs.RangeLemmas.{range_append, map_same}
use Rattle.ts_packet.specs.Null.{null_packet}
use Rattle.null_delete.specs.Deletion.{packet_at}
use Rattle.common_plp.specs.Shared.{joined_packet}
use Rattle.common_plp.specs.Split.{joined}
use Rattle.common_plp.specs.Laws.{JoinedSlots}

-- what comes of a slot
abbrev at_slot : List (List ℕ) → List (List ℕ) → ℕ → List ℕ
at_slot common own k = joined_packet (packet_at common k) (packet_at own k)

joined_length : (common own : List (List ℕ)) → length (joined common own) ≡ length own
unfolding joined
joined_length common own = length-map-range_with_len (at_slot common own) 0 (length own)

joined_slot : (common own : List (List ℕ)) (k : ℕ) → k < length own
    → slice_get (joined common own) k ≡ Some (at_slot common own k)
unfolding joined
joined_slot common own k inside =
    slice_get-get_or (joined common own) k null_packet (omega (arith, inside, joined_length common own))
    ∙ ap (λ (p : List ℕ). Some p)
    (get_or-map-range_with_len (at_slot common own) 0 (length own) k k null_packet inside (omega arith))

-- of two functions of which one lags behind the other
pub map_lag : (f g : ℕ → List ℕ) (a b n : ℕ) → ((k : ℕ) → k < n → f (a + k) ≡ g (b + k))
    → map f (range_with_len a n) ≡ map g (range_with_len b n)
map_lag f g a b zero same = refl
map_lag f g a b (suc n) same =
    let here : f a ≡ g b = let s = same 0 (omega arith) in let e : a + 0 ≡ a = omega arith in let h :
    b + 0 ≡ b = omega arith in
    rw (e, h) at s in
    let later : (k : ℕ) → k < n → f (a + 1 + k) ≡ g (b + 1 + k) = λ k lt. let s = same (k + 1) (omega (arith, lt)) in
    let e : a + (k + 1) ≡ a + 1 + k = omega arith in let h : b + (k + 1) ≡ b + 1 + k = omega arith in rw (e, h) at s in
    ap₂ (λ x l. x ∷ l) here (map_lag f g (a + 1) (b + 1) n later)

map_append : (f : ℕ → List ℕ) (xs ys : List ℕ) → map f (xs ++ ys) ≡ map f xs ++ map f ys
map_append f [] ys = refl
map_append f (x ∷ xs) ys = ap (λ l. f x ∷ l) (map_append f xs ys)

joined_more : (common own more others : List (List ℕ)) → length common ≡ length own
    → joined (common ++ more) (own ++ others) ≡ joined common own ++ joined more others
unfolding joined
joined_more common own more others same =
    let all : ℕ → List ℕ = at_slot (common ++ more) (own ++ others) in
    let n : ℕ = length own in
    ap (λ (m : ℕ). map all (range_with_len 0 m)) (length-append own others)
    ∙ ap (map all) (range_append 0 n (length others))
    ∙ map_append all (range_with_len 0 n) (range_with_len (zero + n) (length others))
    ∙ ap₂ (λ (x y : List (List ℕ)). x ++ y)
    (map_same all (at_slot common own) 0 n (λ k from to. ap₂ joined_packet
    (get_or_append_left common more null_packet k (omega (arith, to, same)))
    (get_or_append_left own others null_packet k (omega (arith, to)))))
    (map_lag all (at_slot more others) (zero + n) 0 (length others) (λ k lt.
    let e : zero + n + k ≡ length common + k = omega (arith, same) in
    let f : zero + n + k ≡ length own + k = omega arith in
    let g : zero + k ≡ k = omega arith in
    ap₂ joined_packet
    (ap (packet_at (common ++ more)) e ∙ get_or-append-add common more k null_packet ∙ ap (packet_at more) (sym g))
    (ap (packet_at (own ++ others)) f ∙ get_or-append-add own others k null_packet ∙ ap (packet_at others) (sym g))))

pub joined_slots : JoinedSlots
joined_slots = record { count = joined_length; slot = joined_slot; more = joined_more }
