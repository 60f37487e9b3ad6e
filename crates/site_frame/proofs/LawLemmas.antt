-- Laws of records.
use Rattle.std.proofs.Common.{◌≡◌, ◌≢◌, ◌⊎◌, ℕ, ◌+◌, ◌-◌, ◌*◌, ◌/◌, ◌%◌, ◌^◌, ◌<◌, ◌≤◌, Bool, false, List, [], ◌∷◌}
use Rattle.std.proofs.Common.{◌++◌, length}
use Rattle.std.proofs.Common.{get_or, take, drop, replicate, Option, Some, None, Result, Ok, Err, refl, sym, ap, ap₂}
use Rattle.std.proofs.Common.{subst, ◌∙◌}
use Rattle.std.proofs.Common.{append-nil, arith, inl, inr}
use Rattle.std.specs.Prelude.{slice_index, map, sum_by, IfOk, IfErr}
use Rattle.std.specs.List.{concat, flat_map, range_with_len}
use Rattle.std.proofs.lemmas.Bool.{cases_lt}
use Rattle.std.proofs.lemmas.List.{take_at, take_all, take-append-drop, length-append, length-drop, length-replicate}
use Rattle.std.proofs.lemmas.List.{drop-append-le, take-append-le}
use Rattle.std.proofs.lemmas.List.FromFn.{get_or-map-range_with_len, fill_by_all}
use Rattle.std.proofs.lemmas.List.Sums.{sum_by-cons}
use Rattle.byteorder.specs.Endian.{big_bytes}
use Rattle.byteorder.specs.Numbers.{length-bytes_high_first}
use Rattle.terms.specs.Bits.{number_of, byte_at, bytes_of, bytes_for}
use Rattle.terms.proofs.BitLemmas.{length-bytes_of, number_of-append}
use Rattle.terms.proofs.PartLemmas.{number_of-zeros}
use Rattle.site_frame.specs.Record.{Block, head_len, block_bytes, blocks_bytes, cell_bytes}
use Rattle.site_frame.specs.Rest.{rest_bytes, FitsFrame, IsRest}
use Rattle.site_frame.specs.Whole.{greatest_rest, HasRest, BeginsWith, Refuses}
use Rattle.site_frame.specs.Whole.{written_rest}
use Rattle.site_frame.specs.Whole.{block_size, record_len, FitsRest, HasHead, HasKind, told_moment, told_len, told_rest}
use Rattle.site_frame.specs.Whole.{view_in}
use Rattle.site_frame.specs.Whole.{IsRead, IsRefused}
use Rattle.site_frame.specs.Laws.{WrittenIsRead, OneRecord, NoRefusal, SpelledOrRefused, OneRefusal, SpelledLength}
use Rattle.site_frame.specs.Laws.{WrittenSpells}
use Rattle.site_frame.specs.Laws.{HeadLength, WrittenLength, BlocksInOrder}
use Rattle.site_frame.specs.declared.fault.RecordWhy.{RecordWhy}
use Rattle.site_frame.specs.declared.fault.RecordWhy.TheVariants.{Head, Kind, Length, Order, OffGrid}
use Rattle.site_frame.specs.declared.parts.FrameParts.{FrameParts}
use Rattle.site_frame.specs.declared.reading.RecordView.{RecordView}
use Rattle.site_frame.specs.declared.reading.RecordView.TheVariants.{Frame, Muted}
use Rattle.site_frame.proofs.FieldLemmas.{length-cells}
use Rattle.site_frame.proofs.WholeLemmas.{begun, read_of, one_read, refused, length_of}

pub written_is_read : WrittenIsRead
written_is_read view front more s = grind (arith, length-append, take_at)

pub one_record : OneRecord
one_record v w front other more rest s t e =
    let r = read_of v front more s in
    let q : IsRead (front ++ more) w (length other) =
    subst (λ (xs : List ℕ). IsRead xs w (length other)) (sym e) (read_of w other rest t) in
    let one = one_read (front ++ more) v w (length front) (length other) r q in (
      one.0,
      sym (take_at front more (length front) refl) ∙ ap₂ (λ (n : ℕ) (xs : List ℕ). take n xs) one.1 e
          ∙ take_at other rest (length other) refl,
    )

pub no_refusal : NoRefusal
no_refusal view front more Head s h = h (read_of view front more s).head
no_refusal view front more Kind s h = h.1 (read_of view front more s).kind
no_refusal view front more Length s h = h.2 (length_of view front more s)
no_refusal view front more Order s h = h
no_refusal view front more OffGrid s h = h

eq_or : (a b : ℕ) → (a ≡ b) ⊎ (a ≢ b)
eq_or a b = grind (arith, cases_lt)

and_or : {A B : Type 0} → A ⊎ (¬ A) → B ⊎ (¬ B) → (A × B) ⊎ (¬ (A × B))
and_or (inl a) (inl b) = inl (a, b)
and_or (inl a) (inr b) = inr (λ p. b p.1)
and_or (inr a) b = inr (λ p. a p.0)

le_or : (a b : ℕ) → (a ≤ b) ⊎ (¬ (a ≤ b))
le_or a b = grind (arith, cases_lt)

head_or : (bytes : List ℕ) → HasHead bytes ⊎ (¬ (HasHead bytes))
head_or bytes = grind (arith, eq_or, and_or, le_or)

kind_or : (bytes : List ℕ) → HasKind bytes ⊎ (¬ (HasKind bytes))
kind_or bytes = grind (arith, eq_or)

record Taken (bytes : List ℕ) : Type 0 where
  pub view : RecordView
  pub len : ℕ
  pub is : IsRead bytes view len

view_or : (bytes : List ℕ) (r : Option RecordView) → view_in (slice_index bytes 4) (told_moment bytes)
    (told_rest bytes) ≡ r
    → HasHead bytes → HasKind bytes → told_len bytes ≤ greatest_rest → 24 + told_len bytes ≤ length bytes
    → Taken bytes ⊎ IsRefused bytes Length
view_or bytes (Some view) e head kind small inside =
    inl (record {
      view = view;
      len = 24 + told_len bytes;
      is = record {
        head = head;
        kind = kind;
        small = small;
        inside = inside;
        view-is = e;
        end = refl;
      };
    })
view_or bytes None e head kind small inside = inr (head, kind, inr (inr e))

length_or : (bytes : List ℕ) → HasHead bytes → HasKind bytes → Taken bytes ⊎ IsRefused bytes Length
length_or bytes head kind = grind (arith, cases_lt, view_or)

pub spelled_or_refused : SpelledOrRefused
spelled_or_refused bytes fits = elim (head_or bytes) [
  | inr none ↦ inr (Head, none)
  | inl head ↦ elim (kind_or bytes) [
    | inr none ↦ inr (Kind, (head, none))
    | inl kind ↦ elim (length_or bytes head kind) [
      | inl t ↦ inl (t.view, (t.len, begun bytes t.view t.len fits t.is))
      | inr bad ↦ inr (Length, refused bytes Length bad)
    ]
  ]
]

pub one_refusal : OneRefusal
one_refusal bytes Head Head r s = refl
one_refusal bytes Head Kind r s = absurd (r s.0)
one_refusal bytes Head Length r s = absurd (r s.0)
one_refusal bytes Head Order r s = absurd s
one_refusal bytes Head OffGrid r s = absurd s
one_refusal bytes Kind Head r s = absurd (s r.0)
one_refusal bytes Kind Kind r s = refl
one_refusal bytes Kind Length r s = absurd (r.1 s.1)
one_refusal bytes Kind Order r s = absurd s
one_refusal bytes Kind OffGrid r s = absurd s
one_refusal bytes Length Head r s = absurd (s r.0)
one_refusal bytes Length Kind r s = absurd (s.1 r.1)
one_refusal bytes Length Length r s = refl
one_refusal bytes Length Order r s = absurd s
one_refusal bytes Length OffGrid r s = absurd s
one_refusal bytes Order other r s = absurd r
one_refusal bytes OffGrid other r s = absurd r

abbrev refusal : RecordWhy → Result (RecordView × ℕ) RecordWhy
refusal why = Err why

-- if bytes are refused, an answer tells the refusal
pub refusal_told : (bytes : List ℕ) (r : Result (RecordView × ℕ) RecordWhy) (why : RecordWhy)
    → IfOk r (λ x. BeginsWith bytes x.0 x.1) → IfErr r (Refuses bytes) → Refuses bytes why → r ≡ Err why
refusal_told bytes (Ok x) why ok err h =
    let whole : take x.1 bytes ++ drop x.1 bytes ≡ bytes = take-append-drop x.1 bytes in
    absurd (no_refusal x.0 (take x.1 bytes) (drop x.1 bytes) why ok.spells
    (subst (λ (xs : List ℕ). Refuses xs why) (sym whole) h))
refusal_told bytes (Err e) why ok err h = ap refusal (one_refusal bytes e why err h)

-- ---- lengths

length-block : (b : Block) (second : ℕ) → length (block_bytes b second) ≡ block_size b
length-block b second =
    omega (arith, length-append (big_bytes 2 (length b.bytes)) b.bytes, length-bytes_high_first 2 (length b.bytes))

blocks_cons : (b : Block) (second : ℕ) (bs : List Block) (more : List ℕ) → length more ≡ sum_by block_size bs
    → length (block_bytes b second ++ more) ≡ sum_by block_size (b ∷ bs)
blocks_cons b second bs more e = length-append (block_bytes b second) more
    ∙ ap₂ (λ (m n : ℕ). m + n) (length-block b second) e
    ∙ sym (sum_by-cons block_size b bs)

length-blocks : (bs : List Block) (ignored : List ℕ) → length (blocks_bytes bs ignored) ≡ sum_by block_size bs
length-blocks [] ignored = refl
length-blocks (b ∷ bs) [] = blocks_cons b 0 bs (blocks_bytes bs []) (length-blocks bs [])
length-blocks (b ∷ bs) (second ∷ ignored) = blocks_cons b second bs (blocks_bytes bs ignored) (length-blocks bs ignored)

-- the rest of a frame, if L1-post fills so many bytes
rest_len : (p : FrameParts) (pad : List Bool) (ignored : List ℕ) → length p.pre ≡ 200
    → bytes_for (length (p.post ++ pad))
    ≡ bytes_for (length p.post)
    → length (rest_bytes p pad ignored) ≡ 25 + (4 + bytes_for (length p.post)) + (2 + sum_by block_size p.blocks)
    + (4 + 4 * length p.cells)
rest_len p pad ignored pre same = grind (arith, length-bytes_of, length-append, ap₂, length-blocks, length-cells)

pub head_length : HeadLength
head_length kind moment rest = grind (arith, length-append)

filled : (a b : ℕ) → b < 8 → (a + b) % 8 ≡ 0 → (a + b + 7) / 8 ≡ (a + 7) / 8
filled a b short whole = omega arith

pub has_len : (view : RecordView) (rest : List ℕ) → HasRest view rest → head_len + length rest ≡ record_len view
has_len (Frame moment pre post blocks cells) rest h =
    let e : length rest ≡ 25 + (4 + bytes_for (length post)) + (2 + sum_by block_size blocks) + (4 + 4 * length cells) =
    ap (λ (xs : List ℕ). length xs) h.spelled ∙ rest_len _ h.pad h.ignored h.fits.pre
    (ap bytes_for (length-append post h.pad)
    ∙ filled (length post) (length h.pad) h.short h.whole) in
    omega (arith, e)
has_len (Muted moment) rest h = ap (λ (xs : List ℕ). head_len + length xs) h

pub spelled_length : SpelledLength
spelled_length view bytes s = grind (arith, length-append, head_length, has_len)

-- ---- as it is written

-- zeros up to a byte, which `bytes_of` puts by itself
zeros_of : List Bool → List Bool
zeros_of post = replicate (8 * bytes_for (length post) - length post) false

zero_byte : (bits : List Bool) (n k : ℕ) → 8 * k ≤ length bits → n < 8 → (length bits + n) % 8 ≡ 0 → 8 * k < length bits
    → byte_at (bits ++ replicate n false) k ≡ byte_at bits k
zero_byte bits n k le small whole lt =
    let d : List Bool = drop (8 * k) bits in
    let zeros : List Bool = replicate n false in
    let size : length d ≡ length bits - 8 * k = length-drop (8 * k) bits in
    let zeros-len : length zeros ≡ n = length-replicate n false in
    let both : length (d ++ zeros) ≡ length d + n = length-append d zeros ∙ ap (λ (m : ℕ). length d + m) zeros-len in
    let behind : drop (8 * k) (bits ++ zeros) ≡ d ++ zeros = drop-append-le (8 * k) bits zeros le in
    ap (λ (xs : List Bool). number_of (take 8 xs) * 2 ^ (8 - length xs)) behind ∙ elim (cases_lt (length d) 8) [
      | inl short ↦ (
          let all : length d + n ≡ 8 = omega (arith, size, short, small, whole, lt) in
          let t : take 8 (d ++ zeros) ≡ d ++ zeros = take_all 8 (d ++ zeros) (omega (arith, both, all)) in
          let u : take 8 d ≡ d = take_all 8 d (omega (arith, short)) in
          let v : number_of (d ++ zeros) ≡ number_of d * 2 ^ n = number_of-append d zeros
          ∙ ap₂ (λ (x y : ℕ). number_of d * 2 ^ x + y) zeros-len (number_of-zeros n) ∙ omega arith in
          let none : 8 - length (d ++ zeros) ≡ 0 = omega (arith, both, all) in
          let left : 8 - length d ≡ n = omega (arith, all) in
          rw (t, none, v, u, left) (omega arith))
      | inr long ↦ (
          let t : take 8 (d ++ zeros) ≡ take 8 d = take-append-le 8 d zeros long in
          let none : 8 - length (d ++ zeros) ≡ 0 = omega (arith, both, long) in
          let left : 8 - length d ≡ 0 = omega (arith, long) in
          rw (t, none, left) refl)
    ]

pub written_length : WrittenLength
written_length (Frame moment pre post blocks cells) h =
    let e = rest_len (record { pre = pre; post = post; blocks = blocks; cells = cells }) [] [] h.pre
    (ap (λ (bits : List Bool). bytes_for (length bits)) (append-nil post)) in
    omega (arith, e)
written_length (Muted moment) h = refl

pub blocks_in_order : BlocksInOrder
blocks_in_order [] = refl
blocks_in_order (b ∷ bs) = ap (λ (xs : List ℕ). block_bytes b 0 ++ xs) (blocks_in_order bs)

zeros_fill : (post : List Bool) → bytes_of (post ++ zeros_of post) ≡ bytes_of post
unfolding zeros_of
zeros_fill post =
    let n : ℕ = 8 * bytes_for (length post) - length post in
    let zeros-len : length (zeros_of post) ≡ n = length-replicate n false in
    let count : bytes_for (length (post ++ zeros_of post)) ≡ bytes_for (length post) =
    omega (arith, length-append post (zeros_of post), zeros-len) in
    let each : (k : ℕ) → k < length (bytes_of post) → get_or (bytes_of post) k 0 ≡ byte_at (post ++ zeros_of post)
    k = λ k h.
    get_or-map-range_with_len (byte_at post) 0 (bytes_for (length post)) k k 0 (omega (arith, h, length-bytes_of post))
    (omega arith)
    ∙ sym (zero_byte post n k (omega (arith, h, length-bytes_of post)) (omega arith) (omega arith)
    (omega (arith, h, length-bytes_of post))) in
    ap (λ (m : ℕ). map (byte_at (post ++ zeros_of post)) (range_with_len 0 m)) (count ∙ sym (length-bytes_of post))
    ∙ sym (fill_by_all (byte_at (post ++ zeros_of post)) (bytes_of post) (length (bytes_of post)) 0 refl each)

written_is_rest : (p : FrameParts) → FitsFrame p → IsRest p (rest_bytes p [] [])
unfolding zeros_of
written_is_rest p fits =
    let n : ℕ = 8 * bytes_for (length p.post) - length p.post in
    let zeros-len : length (zeros_of p.post) ≡ n = length-replicate n false in
    let same : bytes_of (p.post ++ []) ≡ bytes_of (p.post ++ zeros_of p.post) = ap bytes_of (append-nil p.post)
    ∙ sym (zeros_fill p.post) in
    record {
      fits = fits;
      pad = zeros_of p.post;
      ignored = [];
      short = omega (arith, zeros-len);
      whole = omega (arith, zeros-len);
      spelled = ap (λ (xs : List ℕ). concat (bytes_of p.pre ∷ (big_bytes 4 (length p.post) ++ xs)
          ∷ (big_bytes 2 (length p.blocks) ++ blocks_bytes p.blocks [])
          ∷ (big_bytes 4 (length p.cells) ++ flat_map cell_bytes p.cells) ∷ [])) same;
    }

has_written : (view : RecordView) → FitsRest view → HasRest view (concat (written_rest view))
has_written (Frame moment pre post blocks cells) h =
    written_is_rest (record { pre = pre; post = post; blocks = blocks; cells = cells }) h
has_written (Muted moment) h = refl

pub written_spells : WrittenSpells
written_spells view h = record {
  fits = h.moment;
  rest = concat (written_rest view);
  parts = has_written view h.rest;
  small = omega (arith, h.small, written_length view h.rest);
  spelled = refl;
}
