-- Bytes that wait, behind room for a header.
use Rattle.std.proofs.Common.{◌≡◌, ℕ, ◌+◌, ◌-◌, ◌≤◌, List, ◌++◌, length, take, drop, ap, sym, ◌∙◌, arith, append_assoc}
use Rattle.std.proofs.Common.{length-append}
use Rattle.std.proofs.Common.{length-drop, length-take, take_at, min, inl, inr}
use Rattle.std.specs.Prelude.{replicate}
use Rattle.std.specs.List.{copy_within}
use Rattle.std.proofs.lemmas.Bool.{cases_lt}
use Rattle.std.proofs.lemmas.List.{take_all, drop_all, drop_at, drop-drop}
use Rattle.std.proofs.lemmas.List.Edits.{take-paste}
use Rattle.std.proofs.Math.Seq.{take-append-add}
use Rattle.mode_adapt.specs.Waiting.{block_of}

-- items of which some were taken out behind the first ones
pub taken_out : {X : Type 0} (old mid new : List X) (len at count : ℕ) → len ≡ length old → at + count ≤ length old
    → mid ≡ copy_within old (at + count) (length old) at → new ≡ take (len - count) mid
    → drop at new ≡ drop count (drop at old)
taken_out {X = X} old mid new len at count whole inside e0 e1 =
    let rest : ℕ = length old - (at + count) in
    let all : length (drop (at + count) old) ≡ rest = length-drop (at + count) old in
    let end : len - count ≡ at + rest = omega (arith, inside, whole) in
    let front : length (take at old) ≡ at = length-take at old ∙ omega (arith, inside) in
    let is : new ≡ take at old ++ drop (at + count) old =
    e1 ∙ ap (take (len - count)) e0
    ∙ ap (λ (n : ℕ). take n (copy_within old (at + count) (length old) at)) end
    ∙ take-paste old at (drop (at + count) old) rest (omega (arith, inside)) (omega (arith, all))
    ∙ ap (λ (xs : List X). take at old ++ xs) (take_all rest (drop (at + count) old) (omega (arith, all))) in
    ap (drop at) is ∙ drop_at (take at old) (drop (at + count) old) at front ∙ sym (drop-drop count at old)

-- the bytes behind a header, once what was appended is taken off again
pub taken_off : (old laid new header more : List ℕ) (len at : ℕ) → len ≡ length old → at ≤ length old
    → length header ≡ at
    → laid ≡ header ++ drop at old ++ more → new ≡ take len laid → drop at new ≡ drop at old
taken_off old laid new header more len at whole inside size e0 e1 =
    let both : length (header ++ drop at old) ≡ len = length-append header (drop at old)
    ∙ omega (arith, size, length-drop at old, whole, inside) in
    let is : new ≡ header ++ drop at old = e1 ∙ ap (take len) e0 ∙ take_at (header ++ drop at old) more len both in
    ap (drop at) is ∙ drop_at header (drop at old) at size

-- the block that lies in the bytes
pub lies : (old laid header items lent : List ℕ) (at size : ℕ) → at ≤ length old → length header ≡ at
    → drop at old ≡ items
    → laid ≡ header ++ drop at old ++ replicate (at + size - length old) 0 → lent ≡ take (at + size) laid
    → lent ≡ block_of header items size
lies old laid header items lent at size inside front is e0 e1 =
    let less : at + size - length old ≡ size - length items =
    omega (arith, ap length is, length-drop at old, inside) in
    let whole : laid ≡ header ++ (items ++ replicate (size - length items) 0) =
    e0 ∙ append_assoc header (drop at old) (replicate (at + size - length old) 0)
    ∙ ap (λ (n : ℕ). header ++ (drop at old ++ replicate n 0)) less
    ∙ ap (λ (xs : List ℕ). header ++ (xs ++ replicate (size - length items) 0)) is in
    e1 ∙ ap (take (at + size)) whole
    ∙ ap (λ (n : ℕ). take (n + size) (header ++ (items ++ replicate (size - length items) 0))) (sym front)
    ∙ take-append-add header (items ++ replicate (size - length items) 0) size

-- as many items as there are, dropped
pub dropped : {X : Type 0} (items : List X) (count some : ℕ) → some ≡ min count (length items)
    → drop some items ≡ drop count items
dropped {X = X} items count some e = elim (cases_lt (length items) count) [
  | inl less ↦ drop_all some items (omega (arith, e, less)) ∙ sym (drop_all count items (omega (arith, less)))
  | inr inside ↦ let same : some ≡ count = omega (arith, e, inside) in ap (λ (n : ℕ). drop n items) same
]
