-- The head of a payload, byte by byte.
use Rattle.std.proofs.Common.{◌≡◌, ℕ, ◌+◌, ◌<◌, ◌≤◌, ⊎_elim, min, Bool, List, length, take, map, set, ap, sym, ◌∙◌}
use Rattle.std.proofs.Common.{arith}
use Rattle.std.specs.List.{range_with_len}
use Rattle.std.proofs.lemmas.List.{take_all, take_more_set}
use Rattle.std.proofs.lemmas.List.FromFn.{map-range_with_len_more, take-map-range_with_len, length-map-range_with_len}
use Rattle.std.proofs.lemmas.Bool.{cases_lt}
use Rattle.terms.specs.Bits.{byte_at, bytes_for, bytes_of}
use Rattle.show_run.specs.SaidLines.{head_of}

-- one more byte was put
pub head_more : (bits : List Bool) (bytes : List ℕ) (k byte : ℕ) → k < length bytes
    → take k bytes ≡ map (byte_at bits) (range_with_len 0 k) → byte ≡ byte_at bits k →
    take (k + 1) (set bytes k byte) ≡ map (byte_at bits) (range_with_len 0 (k + 1))
head_more bits bytes k byte inside so_far is =
    take_more_set bytes k byte inside
    ∙ rw (so_far, is) (sym (map-range_with_len_more (byte_at bits) 0 k k (omega arith)))

-- all bytes of the head were put
pub head_whole : (bits : List Bool) (count : ℕ) → count ≡ min (bytes_for (length bits)) 8
    → map (byte_at bits) (range_with_len 0 count) ≡ head_of bits
head_whole bits count is =
    ⊎_elim
    (λ (few : bytes_for (length bits) < 8).
    let all : count ≡ bytes_for (length bits) = omega arith in
    let size = length-map-range_with_len (byte_at bits) 0 (bytes_for (length bits)) in
    ap (λ (k : ℕ). map (byte_at bits) (range_with_len 0 k)) all
    ∙ sym (take_all 8 (bytes_of bits) (omega (arith, size))))
    (λ (many : 8 ≤ bytes_for (length bits)).
    let eight : count ≡ 8 = omega arith in
    ap (λ (k : ℕ). map (byte_at bits) (range_with_len 0 k)) eight
    ∙ sym (take-map-range_with_len (byte_at bits) 0 (bytes_for (length bits)) 8 many))
    (cases_lt (bytes_for (length bits)) 8)
