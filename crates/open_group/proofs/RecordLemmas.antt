-- The bytes of blocks and cells, piece by piece.
use Rattle.std.proofs.Common.{◌≡◌, ℕ, zero, suc, ◌+◌, ◌-◌, ◌<◌, ◌≤◌, List, [], ◌∷◌, ◌++◌, length, take, drop, refl, ap}
use Rattle.std.proofs.Common.{ap₂, sym}
use Rattle.std.proofs.Common.{subst, ◌∙◌, ⊎_elim, arith, append_assoc, length-append, take-append-drop, replicate, lit≤}
use Rattle.std.specs.Prelude.{slice_set, slice_index_or}
use Rattle.std.specs.List.{flat_map}
use Rattle.std.proofs.Math.Seq.{take-add}
use Rattle.std.proofs.lemmas.Slice.{between-put_mid}
use borrow.Rule.Slice.PartMut.{put_mid}
use Rattle.std.proofs.lemmas.Bool.{cases_eq}
use Rattle.std.proofs.lemmas.List.{drop_more, drop-set, get_or-set_same, get_or-set_other, drop-drop, drop_all}
use Rattle.std.proofs.lemmas.List.{length-drop, length-take-le}
use Rattle.plp_config.specs.declared.config.Config.{Config}
use Rattle.plp_config.specs.declared.plp.TheConstants.{MOST_BLOCK_BYTES}
use Rattle.scheduler.specs.Shape.{FrameShape}
use Rattle.open_group.specs.WriterLaws.{EmptyIsShort, AppendedIsShort}
use Rattle.open_group.specs.RecordBytes.{list_at, front_of, sent_bytes, lists_bytes}
use Rattle.site_frame.specs.Words.{words}
use Rattle.site_frame.proofs.WordLemmas.{words_split}

-- the first block of a list, and the others
first_block : (c : Config) (plp : ℕ) (l : List (List ℕ)) (rest : List ℕ) → 0 < length l
    → flat_map (sent_bytes c plp) l ++ rest
    ≡ sent_bytes c plp (slice_index_or l 0 []) ++ (flat_map (sent_bytes c plp) (drop 1 l) ++ rest)
first_block c plp [] rest h = absurd (omega arith)
first_block c plp (b ∷ l) rest h = append_assoc (sent_bytes c plp b) (flat_map (sent_bytes c plp) l) rest

pub blocks_front : (c : Config) (plp : ℕ) (lists : List (List (List ℕ))) → plp < length lists
    → 0 < length (list_at lists plp)
    → lists_bytes c plp (drop plp lists) ≡ sent_bytes c plp (front_of lists plp) ++ lists_bytes c plp
    (drop plp (slice_set lists plp (drop 1 (list_at lists plp))))
blocks_front c plp lists h some =
    ap (lists_bytes c plp) (drop_more lists plp [] h)
    ∙ first_block c plp (list_at lists plp) (lists_bytes c (plp + 1) (drop (plp + 1) lists)) some
    ∙ ap (λ (l : List (List (List ℕ))). sent_bytes c plp (front_of lists plp) ++ lists_bytes c plp l)
    (sym (drop-set lists plp (drop 1 (list_at lists plp)) h))

-- lists without blocks are short
none_at : (n i : ℕ) → list_at (replicate n []) i ≡ []
none_at zero zero = refl
none_at zero (suc i) = refl
none_at (suc n) zero = refl
none_at (suc n) (suc i) = none_at n i

pub empty_is_short : EmptyIsShort
empty_is_short chunks lists list place =
    subst (λ (l : List (List ℕ)). length (slice_index_or l place []) ≤ MOST_BLOCK_BYTES) (sym (none_at lists list))
    (nothing place)
  where
    none : List (List ℕ)
    none = []

    nothing : (place : ℕ) → length (slice_index_or none place []) ≤ MOST_BLOCK_BYTES
    nothing zero = lit≤ tt
    nothing (suc place) = lit≤ tt

-- and stay so with a short block more
push_short : (blocks : List (List ℕ)) (block : List ℕ) (place : ℕ)
    → ((p : ℕ) → length (slice_index_or blocks p []) ≤ MOST_BLOCK_BYTES)
    → length block ≤ MOST_BLOCK_BYTES
    → length (slice_index_or (blocks ++ block ∷ []) place []) ≤ MOST_BLOCK_BYTES
push_short [] block zero each short = short
push_short [] block (suc place) each short = each place
push_short (b ∷ blocks) block zero each short = each 0
push_short (b ∷ blocks) block (suc place) each short = push_short blocks block place (λ p. each (suc p)) short

pub appended_is_short : AppendedIsShort
appended_is_short pool plp block inside short few list place =
    let lists : List (List (List ℕ)) = pool.lists in
    let more : List (List ℕ) = list_at lists plp ++ block ∷ [] in
    ⊎_elim
    (λ (same : list ≡ plp).
    let a : list_at (slice_set lists plp more) list ≡ more = ap (list_at (slice_set lists plp more)) same
    ∙ get_or-set_same lists plp more [] inside in
    subst (λ (l : List (List ℕ)). length (slice_index_or l place []) ≤ MOST_BLOCK_BYTES) (sym a)
    (push_short (list_at lists plp) block place (short plp) few))
    (λ (other : list ≡ plp → ⊥).
    subst (λ (l : List (List ℕ)). length (slice_index_or l place []) ≤ MOST_BLOCK_BYTES)
    (sym (get_or-set_other lists plp list more [] other)) (short list place))
    (cases_eq list plp)

-- a block is given
pub block_given : (c : Config) (first plp : ℕ) (old new : List (List (List ℕ))) (out tail : List ℕ)
    → lists_bytes c first (drop first old) ≡ lists_bytes c plp (drop plp old) → plp < length old
    → 0 < length (list_at old plp)
    → out ≡ sent_bytes c plp (front_of old plp) → new ≡ slice_set old plp (drop 1 (list_at old plp))
    → lists_bytes c first (drop first old) ++ tail ≡ out ++ (lists_bytes c plp (drop plp new) ++ tail)
block_given c first plp old new out tail same inside some o n =
    ap (λ (l : List ℕ). l ++ tail) (same ∙ blocks_front c plp old inside some
    ∙ ap₂ (λ (b : List ℕ) (l : List (List (List ℕ))). b ++ lists_bytes c plp (drop plp l)) (sym o) (sym n))
    ∙ append_assoc out (lists_bytes c plp (drop plp new)) tail

-- cells are given
pub words_given : (c : Config) (shape : FrameShape) (frame_idx address count : ℕ) (old out : List ℕ) → old ≡ []
    → out ≡ old ++ words c shape frame_idx address count → address + count ≤ c.cells
    → words c shape frame_idx address (c.cells - address)
    ≡ out ++ words c shape frame_idx (address + count) (c.cells - (address + count))
words_given c shape frame_idx address count old out empty e inside =
    let f : c.cells - address ≡ count + (c.cells - (address + count)) = omega arith in
    ap (words c shape frame_idx address) f ∙ words_split c shape frame_idx count (c.cells - (address + count)) address
    ∙ ap (λ (l : List ℕ). l ++ words c shape frame_idx (address + count) (c.cells - (address + count)))
    (sym (e ∙ ap (λ (l : List ℕ). l ++ words c shape frame_idx address count) empty))

-- some bytes of a piece are taken, and then the next piece is in hand
pub taken : (piece rest : List ℕ) (at size : ℕ) → drop at piece ++ rest ≡ take size (drop at piece)
    ++ (drop (at + size) piece ++ rest)
taken piece rest at size =
    ap (λ (l : List ℕ). l ++ rest) (sym (take-append-drop size (drop at piece))
    ∙ ap (λ (l : List ℕ). take size (drop at piece) ++ l) (drop-drop size at piece))
    ∙ append_assoc (take size (drop at piece)) (drop (at + size) piece) rest

pub taken_all : (piece rest next more : List ℕ) (at size : ℕ) → length piece ≤ at + size → rest ≡ next ++ more
    → drop at piece ++ rest ≡ take size (drop at piece) ++ (drop 0 next ++ more)
taken_all piece rest next more at size e f =
    taken piece rest at size
    ∙ ap (λ (l : List ℕ). take size (drop at piece) ++ (l ++ rest)) (drop_all (at + size) piece e)
    ∙ ap (λ (l : List ℕ). take size (drop at piece) ++ l) f

-- the same, if words of the rest stand straight behind them in a place that has the bytes from then on
pub taken_through : (piece rest mid next more before after : List ℕ) (at a b : ℕ) → length piece ≤ at + a
    → take a before ≡ take a (drop at piece) → take a after ≡ take a before
    → rest ≡ take b (drop a after) ++ mid → mid ≡ next ++ more → drop at piece ++ rest ≡ take (a + b) after
    ++ (drop 0 next ++ more)
taken_through piece rest mid next more before after at a b e front same filled built =
    let first : take a (drop at piece) ≡ take a after = sym (same ∙ front) in
    taken_all piece rest (take b (drop a after)) mid at a e filled
    ∙ ap₂ (λ (l m : List ℕ). l ++ (take b (drop a after) ++ m)) first built
    ∙ sym (append_assoc (take a after) (take b (drop a after)) (next ++ more))
    ∙ ap (λ (l : List ℕ). l ++ (next ++ more)) (sym (take-add a b after))

-- what a part of a place has after a write to it
pub part_written : (from size : ℕ) (place bytes : List ℕ) → length bytes ≡ length (take size (drop from place))
    → from + size ≤ length place → length bytes ≡ size
part_written from size place bytes e inside =
    let a : length (drop from place) ≡ length place - from = length-drop from place in
    e ∙ length-take-le size (drop from place) (omega (arith, a, inside))

pub length-put_mid : (from size : ℕ) (place bytes : List ℕ) → length bytes ≡ size → from + size ≤ length place
    → length (put_mid from size place bytes) ≡ length place
length-put_mid from size place bytes e inside =
    let front : length (take from place) ≡ from = length-take-le from place (omega (arith, inside)) in
    let a : length (drop from place) ≡ length place - from = length-drop from place in
    let b : length (drop size (drop from place)) ≡ length (drop from place) - size = length-drop size
    (drop from place) in
    let c : length (take from place ++ (bytes ++ drop size (drop from place))) ≡ length (take from place)
    + length (bytes ++ drop size (drop from place)) = length-append (take from place) _ in
    let d : length (bytes ++ drop size (drop from place)) ≡ length bytes + length (drop size (drop from place)) =
    length-append bytes _ in
    omega (arith, front, a, b, c, d, e, inside)

-- what stands behind both pieces that were given stays
pub stays_behind : (old mid new : List ℕ) (a b : ℕ) → drop a mid ≡ drop a old → drop (a + b) new ≡ drop (a + b) mid
    → drop (a + b) new ≡ drop (a + b) old
stays_behind old mid new a b first second = second ∙ sym (drop-drop b a mid) ∙ ap (drop b) first ∙ drop-drop b a old

pub part_read : (from size k : ℕ) (place bytes : List ℕ) → k ≡ size → length bytes ≡ k → from + k ≤ length place
    → bytes ≡ take size (drop from (put_mid from k place bytes))
part_read from size k place bytes same e inside =
    let whole : from + size - from ≡ size = omega arith in
    sym (ap (λ (n : ℕ). take n (drop from (put_mid from k place bytes))) (sym whole)
    ∙ between-put_mid from k place bytes (from + size) (omega (arith, inside)) (omega (arith, e, same)))
