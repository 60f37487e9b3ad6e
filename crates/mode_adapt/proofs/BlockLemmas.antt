-- A block that is written and put.
use Rattle.std.proofs.Common.{◌≡◌, ℕ, ◌+◌, ◌-◌, ◌*◌, ◌<◌, ◌≤◌, Bool, false, List, [], ◌∷◌, ◌++◌, length, map, take, min}
use Rattle.std.proofs.Common.{ap, ap₂}
use Rattle.std.proofs.Common.{sym, subst, ◌∙◌, arith, append_assoc, append-nil, length-append, inl, inr}
use Rattle.std.specs.Prelude.{replicate}
use Rattle.std.specs.Int.{div_ceil}
use Rattle.std.proofs.lemmas.Bool.{cases_lt}
use Rattle.std.proofs.lemmas.List.{get_or-set_same, map-append, length-take, length-replicate, take_all, take-append-le}
use Rattle.std.proofs.lemmas.List.Elements.{All-push}
use Rattle.terms.specs.Bits.{bits_of}
use Rattle.terms.proofs.BitLemmas.{length-bits_of, bits_of-append}
use Rattle.bit_slice.proofs.FillingLemmas.{bits_of-zeros}
use Rattle.bb_frame.specs.BasebandFrame.{header_bits}
use Rattle.linked_pool.specs.Pool.{State, list_at, chunks_for, appended, IsWhole}
use Rattle.mode_adapt.specs.declared.chain.Chain.{Chain}
use Rattle.mode_adapt.specs.Waiting.{block_of}
use Rattle.mode_adapt.specs.Pieces.{header_by, first_in, piece_of}
use Rattle.mode_adapt.specs.Place.{AreShort}
use Rattle.mode_adapt.specs.Steps.{Sends, Puts, Lacks}
use Rattle.mode_adapt.proofs.FirstLemmas.{number_le}
use Rattle.mode_adapt.proofs.OfferLemmas.{few}

-- the first bytes of a data field, and zeros
filled : (items : List ℕ) (size count : ℕ) → count ≡ min size (length items)
    → take size (items ++ replicate (size - length items) 0)
    ≡ take count items ++ replicate (size - count) 0
filled items size count e = elim (cases_lt (length items) size) [
  | inl less ↦
      let all : count ≡ length items = omega (arith, e, less) in
      let whole : length (items ++ replicate (size - length items) 0) ≡ size =
      length-append items (replicate (size - length items) 0)
      ∙ omega (arith, length-replicate {A = ℕ} (size - length items) 0, less) in
      take_all size (items ++ replicate (size - length items) 0) (omega (arith, whole))
      ∙ ap₂ (λ (xs : List ℕ) (n : ℕ). xs ++ replicate (size - n) 0) (sym (take_all count items (omega (arith, all))))
      (sym all)
  | inr full ↦
      let all : count ≡ size = omega (arith, e, full) in
      let none : size - count ≡ 0 = omega (arith, all) in
      take-append-le size items (replicate (size - length items) 0) full
      ∙ ap (λ (n : ℕ). take n items) (sym all)
      ∙ sym (append-nil (take count items))
      ∙ ap (λ (n : ℕ). take count items ++ replicate n 0) (sym none)
]

-- the block of what waits, by its parts
pub written : (chain : Chain) (count : ℕ) (header block : List ℕ) → length header ≡ 10
    → count ≡ min chain.settings.field_bytes
    (length chain.pending.items)
    → bits_of header ≡ header_bits (header_by chain.settings chain.sent count (first_in chain count))
    → block ≡ block_of header chain.pending.items chain.settings.field_bytes
    → (bits_of block ≡ piece_of chain count) × (length block ≡ chain.settings.field_bytes + 10)
written chain count header block ten first e is =
    let size : ℕ = chain.settings.field_bytes in
    let body : List ℕ = take count chain.pending.items in
    let parts : block ≡ header ++ (body ++ replicate (size - count) 0) = is
    ∙ ap (λ (xs : List ℕ). header ++ xs) (filled chain.pending.items size count first) in
    let few : length body ≡ count = length-take count chain.pending.items ∙ omega (arith, first) in
    let bits : length (bits_of body) ≡ 8 * count = length-bits_of body ∙ ap (λ (n : ℕ). 8 * n) few in
    let rest : 8 * (size - count) ≡ 8 * (size + 10) - 80 - length (bits_of body) = omega (arith, bits, first) in
    let zeros : bits_of (replicate (size - count) 0) ≡ replicate (8 * (size + 10) - 80 - length (bits_of body)) false =
    bits_of-zeros (size - count) ∙ ap (λ (n : ℕ). replicate n false) rest in (
      ap bits_of parts ∙ bits_of-append header (body ++ replicate (size - count) 0)
          ∙ ap₂ (λ (front back : List Bool). front ++ back) e
          (bits_of-append body (replicate (size - count) 0) ∙ ap (λ (back : List Bool). bits_of body ++ back) zeros)
          ∙ sym (append_assoc (header_bits (header_by chain.settings chain.sent count (first_in chain count)))
          (bits_of body)
          (replicate (8 * (size + 10) - 80 - length (bits_of body)) false)),
      ap length parts ∙ length-append header (body ++ replicate (size - count) 0)
          ∙ omega (
            arith,
            ten,
            length-append body (replicate (size - count) 0),
            few,
            length-replicate
                {A = ℕ} (size - count) 0,
            first,
          ),
    )

-- the user packets that begin in what waits, after bytes were sent
pub starts_on : (up s p n count p' n' : ℕ) → 1 ≤ up → s + p ≡ up * (div_ceil s up + n) → count ≤ p → p' ≡ p - count
    → n' ≡ n - (div_ceil (s + count) up - div_ceil s up)
    → s + count + p' ≡ up * (div_ceil (s + count) up + n')
starts_on up s p n count p' n' one e le e0 e1 =
    let rises = number_le up s (s + count) one (omega arith) in
    let within = few up (s + count) (div_ceil s up + n) one (omega (arith, e, le)) in
    let same : div_ceil s up + n ≡ div_ceil (s + count) up + n' = omega (arith, rises, within, e1) in
    let sum : s + count + p' ≡ s + p = omega (arith, le, e0) in
    sum ∙ e ∙ ap (λ (v : ℕ). up * v) same

pub puts : (chain new : Chain) (count : ℕ) (pool after : State) (list : ℕ) (block : List ℕ) → list < length pool.lists
    → bits_of block ≡ piece_of chain count → after ≡ appended pool list block → Sends chain new count
    → Puts chain new count (list_at pool list) (list_at after list)
puts chain new count pool after list block inside e a s =
    let same : list_at after list ≡ list_at pool list ++ block ∷ [] = ap (λ (p : State). list_at p list) a
    ∙ get_or-set_same pool.lists list (list_at pool list ++ block ∷ []) [] inside in
    record {
      sends = s;
      list = ap (map bits_of) same ∙ map-append bits_of (list_at pool list) (block ∷ [])
          ∙ ap (λ (b : List Bool). map bits_of (list_at pool list) ++ b ∷ []) e;
    }

pub lacks : (chain : Chain) (pool after : State) (want have : ℕ) → chain.made < chain.settings.blocks
    → want ≡ chunks_for (10 + chain.settings.field_bytes) → have ≡ pool.spare
    → pool.spare < chunks_for (10 + chain.settings.field_bytes) → after ≡ pool → IsWhole after
    → Lacks chain pool want have
lacks chain pool after want have room wanted spare less same whole =
    let turn : 10 + chain.settings.field_bytes ≡ chain.settings.field_bytes + 10 = omega arith in
    record {
      wanted = wanted ∙ ap chunks_for turn;
      spare = spare;
      less = omega (arith, wanted, spare, less);
      room = room;
      whole = rw same at whole;
    }

-- Lists of short blocks stay such lists.
pub puts_short : (chain : Chain) (pool after : State) (list : ℕ) (block : List ℕ) → list < length pool.lists
    → chain.settings.field_bytes ≤ 6720 → length block ≡ chain.settings.field_bytes + 10
    → after ≡ appended pool list block → AreShort (list_at pool list) → AreShort (list_at after list)
puts_short chain pool after list block inside few e a short =
    let same : list_at after list ≡ list_at pool list ++ block ∷ [] = ap (λ (p : State). list_at p list) a
    ∙ get_or-set_same pool.lists list (list_at pool list ++ block ∷ []) [] inside in
    let size : length block ≤ 6730 = omega (arith, e, few) in
    subst AreShort (sym same) (All-push (λ (block : List ℕ). length block ≤ 6730) (list_at pool list) block short size)
