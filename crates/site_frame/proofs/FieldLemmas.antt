-- What is written is read again, and what is read is written so, section by section.
use Rattle.std.proofs.Common.{◌≡◌, ℕ, zero, suc, ◌+◌, ◌*◌, ◌/◌, ◌%◌, ◌^◌, ◌<◌, ◌≤◌, ◌==◌, false, ltb, List, [], ◌∷◌}
use Rattle.std.proofs.Common.{◌++◌, length}
use Rattle.std.proofs.Common.{get_or, take, drop, Option, Some, None, refl, sym, ap, ap₂, subst, ◌∙◌, append_assoc}
use Rattle.std.proofs.Common.{arith}
use Rattle.std.specs.Prelude.{slice_index}
use Rattle.std.specs.List.{flat_map, AllByRecursion}
use Rattle.std.proofs.lemmas.Bool.{cases_lt, ltb-false, le-ltb, cond-true, cond-false}
use Rattle.std.proofs.lemmas.Bool.Decides.{eqb_tells}
use Rattle.std.proofs.lemmas.List.{take_at, drop_at, take-append-drop, length-append, length-take, length-drop}
use Rattle.std.proofs.lemmas.List.{drop-drop}
use Rattle.std.proofs.lemmas.List.{drop_all, append-nil, get_or-drop, get_or-take, get_or_past}
use Rattle.std.proofs.lemmas.Nat.{be_bytes_2, be_bytes_4, be_bytes_8, div-mul-add, mod-mul-add}
use Rattle.byteorder.specs.Endian.{big_number, big_bytes}
use Rattle.byteorder.specs.Numbers.{big_number-reads_back, length-bytes_high_first}
use Rattle.site_frame.specs.Record.{Block, FitsBlock, FitsCell, block_bytes, blocks_bytes, dummy_word, word_of, cell_of}
use Rattle.site_frame.specs.Record.{cell_bytes}
use Rattle.cell_map.specs.declared.places.Cell.{Cell}
use Rattle.site_frame.specs.Reading.{◌>>=◌, cut, number, block_len, skip_block, skip_blocks, block_at, block_of}
use Rattle.site_frame.specs.Reading.{blocks_in}
use Rattle.site_frame.specs.Reading.{cells_in}
use Rattle.site_frame.proofs.BlockLemmas.{guard_some, first_whole}

abbrev pub IsBytes : List ℕ → Type 0
IsBytes bytes = (i : ℕ) → get_or bytes i 0 < 256

pub IsBytes-drop : (n : ℕ) (bytes : List ℕ) → IsBytes bytes → IsBytes (drop n bytes)
IsBytes-drop n bytes h i = rw get_or-drop (h (n + i))

pub IsBytes-take : (n : ℕ) (bytes : List ℕ) → IsBytes bytes → IsBytes (take n bytes)
IsBytes-take n bytes h i = grind (arith, cases_lt, get_or-take, get_or_past, length-take)

abbrev some_of : {A : Type 0} → A → Option A
some_of x = Some x

pub some_same : {A : Type 0} (x y : A) → (some_of x) ≡ Some y → x ≡ y
some_same x y e = cc

-- ---- written, then read

pub cut_again : (n : ℕ) (front rest : List ℕ) → length front ≡ n → cut n (front ++ rest) ≡ Some (front, rest)
cut_again n front rest e = grind (arith, ltb, le-ltb, length-append, take_at, drop_at)

pub number_again : (n x : ℕ) (rest : List ℕ) → x < 256 ^ n → number n (big_bytes n x ++ rest) ≡ Some (x, rest)
number_again n x rest lt =
    let len : length (big_bytes n x) ≡ n = length-bytes_high_first n x in
    let long : ltb (length (big_bytes n x ++ rest)) n ≡ false =
    le-ltb _ _ (omega (arith, len, length-append (big_bytes n x) rest)) in
    rw (long, big_number-reads_back n x rest lt, drop_at (big_bytes n x) rest n len) refl

-- a block at the front is read again
pub record Again (b : Block) (bytes rest : List ℕ) : Type 0 where
  pub first : block_at bytes ≡ b
  pub skip : skip_block bytes ≡ Some rest
  pub behind : drop (block_len bytes) bytes ≡ rest

pub block_again : (b : Block) (second : ℕ) (rest : List ℕ) → FitsBlock b → Again b (block_bytes b second ++ rest) rest
block_again b second rest fits =
    let bytes : List ℕ = block_bytes b second ++ rest in
    let n : ℕ = length b.bytes in
    let two : length (big_bytes 2 n) ≡ 2 = length-bytes_high_first 2 n in
    let behind2 : drop 2 bytes ≡ big_bytes 2 n ++ (b.bytes ++ rest) = append_assoc (big_bytes 2 n) b.bytes rest in
    let told : big_number 2 (drop 2 bytes) ≡ n = ap (big_number 2) behind2
    ∙ big_number-reads_back 2 n (b.bytes ++ rest) fits.1 in
    let behind4 : drop 4 bytes ≡ b.bytes ++ rest = ap (drop 2) behind2
    ∙ drop_at (big_bytes 2 n) (b.bytes ++ rest) 2 two in
    let body : take (big_number 2 (drop 2 bytes)) (drop 4 bytes) ≡ b.bytes = rw (told, behind4)
    (take_at b.bytes rest n refl) in
    let len : block_len bytes ≡ 4 + n = ap (λ (k : ℕ). 4 + k) told in
    let more : length bytes ≡ 2 + length (drop 2 bytes) = omega arith in
    let behind-len : length (drop 2 bytes) ≡ length (big_bytes 2 n ++ (b.bytes ++ rest)) =
    ap (λ (xs : List ℕ). length xs) behind2 in
    let all : length bytes ≡ 4 + (n + length rest) =
    omega (arith, more, behind-len, length-append (big_bytes 2 n) (b.bytes ++ rest), length-append b.bytes rest, two) in
    let past : drop (block_len bytes) bytes ≡ rest = ap (λ (k : ℕ). drop k bytes) len ∙ sym (drop-drop n 4 bytes)
    ∙ ap (drop n) behind4 ∙ drop_at b.bytes rest n refl in
    let long : ltb (length bytes) (block_len bytes) ≡ false = le-ltb _ _ (omega (arith, all, len)) in
    record {
      first = ap (λ (xs : List ℕ). block_of b.plp_id xs) body;
      skip = rw long (ap Some past);
      behind = past;
    }

pub blocks_step : (b : Block) (second : ℕ) (bs : List Block) (more rest : List ℕ) → FitsBlock b
    → (skip_blocks (length bs) (more ++ rest) ≡ Some rest) × (blocks_in (length bs) (more ++ rest) ≡ bs)
    → (skip_blocks (suc (length bs)) ((block_bytes b second ++ more) ++ rest) ≡ Some rest)
    × (blocks_in (suc (length bs)) ((block_bytes b second ++ more) ++ rest) ≡ b ∷ bs)
blocks_step b second bs more rest fits ih =
    let apart : (block_bytes b second ++ more) ++ rest ≡ block_bytes b second ++ (more ++ rest) =
    append_assoc (block_bytes b second) more rest in
    let a : Again b ((block_bytes b second ++ more) ++ rest) (more ++ rest) =
    subst (λ (xs : List ℕ). Again b xs (more ++ rest)) (sym apart) (block_again b second (more ++ rest) fits) in (
      ap (λ (r : Option (List ℕ)). r >>= skip_blocks (length bs)) a.skip ∙ ih.0,
      ap₂ (λ (x : Block) (xs : List Block). x ∷ xs) a.first (ap (blocks_in (length bs)) a.behind ∙ ih.1),
    )

pub blocks_again : (bs : List Block) (ignored rest : List ℕ) → AllByRecursion FitsBlock bs
    → (skip_blocks (length bs) (blocks_bytes bs ignored ++ rest) ≡ Some rest)
    × (blocks_in (length bs) (blocks_bytes bs ignored ++ rest) ≡ bs)
blocks_again [] ignored rest h = (refl, refl)
blocks_again (b ∷ bs) [] rest h = blocks_step b 0 bs (blocks_bytes bs []) rest h.0 (blocks_again bs [] rest h.1)
blocks_again (b ∷ bs) (second ∷ ignored) rest h =
    blocks_step b second bs (blocks_bytes bs ignored) rest h.0 (blocks_again bs ignored rest h.1)

-- the cells
abbrev the_cell : ℕ → ℕ → Cell
the_cell ordinal cell = record { ordinal = ordinal; cell = cell }

not_equal : (a b : ℕ) → a < b → (a == b) ≡ false
not_equal a b lt = grind (arith, eqb_tells)

-- a cell that fits its word is read again
pub word_again : (cell : Option Cell) → FitsCell cell → (word_of cell < 256 ^ 4) × (cell_of (word_of cell) ≡ cell)
word_again None h = (omega arith, refl)
word_again (Some cell) h =
    let word : ℕ = cell.ordinal * 32768 + cell.cell in
    let high : word / 32768 ≡ cell.ordinal = div-mul-add cell.ordinal 32768 cell.cell h.0 in
    let low : word % 32768 ≡ cell.cell = mod-mul-add cell.ordinal 32768 cell.cell h.0 in
    (omega (arith, h.1), cond-false _ _ _ (not_equal word dummy_word h.1) ∙ ap Some (ap₂ the_cell high low))

-- and a word spells a cell that is written so
pub cell_taken : (word : ℕ) → word < 256 ^ 4 → FitsCell (cell_of word) × (word_of (cell_of word) ≡ word)
cell_taken word small = grind (arith, eqb_tells, cond-true, cond-false)

pub length-cells : (cells : List (Option Cell)) → length (flat_map cell_bytes cells) ≡ 4 * length cells
length-cells [] = refl
length-cells (c ∷ cells) =
    omega (
      arith,
      length-append (cell_bytes c) (flat_map cell_bytes cells),
      length-bytes_high_first 4 (word_of c),
      length-cells cells,
    )

pub cells_again : (cells : List (Option Cell)) → AllByRecursion FitsCell cells
    → cells_in (length cells) (flat_map cell_bytes cells) ≡ cells
cells_again [] h = refl
cells_again (c ∷ cells) h =
    let rest : List ℕ = flat_map cell_bytes cells in
    let w = word_again c h.0 in
    let first : cell_of (big_number 4 (cell_bytes c ++ rest)) ≡ c = ap cell_of
    (big_number-reads_back 4 (word_of c) rest w.0)
    ∙ w.1 in
    let behind : drop 4 (cell_bytes c ++ rest) ≡ rest = drop_at (cell_bytes c) rest 4
    (length-bytes_high_first 4 (word_of c)) in
    ap₂ (λ (x : Option Cell) (xs : List (Option Cell)). x ∷ xs) first (ap (cells_in (length cells)) behind
    ∙ cells_again cells h.1)

-- a front and a rest that were put
pub two_parts : (h n old : List ℕ) → length h ≡ 8 → length old ≡ 24
    → take 8 (h ++ drop 8 old) ++ (n ++ drop 16 (drop 8 (h ++ drop 8 old))) ≡ h ++ n
two_parts h n old eight long =
    let none : drop 16 (drop 8 (h ++ drop 8 old)) ≡ [] = ap (drop 16) (drop_at h (drop 8 old) 8 eight)
    ∙ drop_all 16 (drop 8 old) (omega (arith, length-drop {A = ℕ} 8 old, long)) in
    rw (take_at h (drop 8 old) 8 eight, none, append-nil n) refl

-- ---- read, then written

pub record CutTakes (n : ℕ) (bytes front rest : List ℕ) : Type 0 where
  pub long : length front ≡ n
  pub parts : bytes ≡ front ++ rest
  pub front_fits : IsBytes front
  pub rest_fits : IsBytes rest

pub cut_takes : (n : ℕ) (bytes front rest : List ℕ) → IsBytes bytes → cut n bytes ≡ Some (front, rest)
    → CutTakes n bytes front rest
cut_takes n bytes front rest fits e =
    let g = guard_some (ltb (length bytes) n) (take n bytes, drop n bytes) (front, rest) e in
    let long : n ≤ length bytes = ltb-false _ _ g.0 in
    let front-is : take n bytes ≡ front = ap (λ (p : List ℕ × List ℕ). p.0) g.1 in
    let rest-is : drop n bytes ≡ rest = ap (λ (p : List ℕ × List ℕ). p.1) g.1 in
    let size : length (take n bytes) ≡ n = omega (arith, long, length-take n bytes) in
    record {
      long = rw (← front-is) size;
      parts = rw (← front-is, ← rest-is) (sym (take-append-drop n bytes));
      front_fits = rw (← front-is) (IsBytes-take n bytes fits);
      rest_fits = rw (← rest-is) (IsBytes-drop n bytes fits);
    }

-- numbers of a width spell the bytes that they were read from
abbrev pub IsWide : ℕ → Type 0
IsWide n = (bytes : List ℕ) → IsBytes bytes → n ≤ length bytes → (big_bytes n (big_number n bytes) ≡ take n bytes)
    × (big_number n bytes < 256 ^ n)

pub wide2 : IsWide 2
wide2 bytes fits long = grind (arith, IsBytes-take, be_bytes_2, length-take)

pub wide4 : IsWide 4
wide4 bytes fits long = grind (arith, IsBytes-take, be_bytes_4, length-take)

pub wide8 : IsWide 8
wide8 bytes fits long = grind (arith, IsBytes-take, be_bytes_8, length-take)

pub record NumberTakes (n : ℕ) (bytes : List ℕ) (x : ℕ) (rest : List ℕ) : Type 0 where
  pub small : x < 256 ^ n
  pub parts : bytes ≡ big_bytes n x ++ rest
  pub rest_fits : IsBytes rest

pub number_takes : (n : ℕ) → IsWide n → (bytes : List ℕ) (x : ℕ) (rest : List ℕ) → IsBytes bytes
    → number n bytes ≡ Some (x, rest)
    → NumberTakes n bytes x rest
number_takes n wide bytes x rest fits e =
    let g = guard_some (ltb (length bytes) n) (big_number n bytes, drop n bytes) (x, rest) e in
    let long : n ≤ length bytes = ltb-false _ _ g.0 in
    let x-is : big_number n bytes ≡ x = ap (λ (p : ℕ × List ℕ). p.0) g.1 in
    let rest-is : drop n bytes ≡ rest = ap (λ (p : ℕ × List ℕ). p.1) g.1 in
    let w = wide bytes fits long in
    record {
      small = rw (← x-is) w.1;
      parts = rw (← x-is, ← rest-is) (sym (take-append-drop n bytes) ∙ ap (λ (xs : List ℕ). xs ++ drop n bytes)
          (sym w.0));
      rest_fits = rw (← rest-is) (IsBytes-drop n bytes fits);
    }

-- a block that was read
block_taken : (bytes : List ℕ) → IsBytes bytes → block_len bytes ≤ length bytes
    → (bytes ≡ block_bytes (block_at bytes) (slice_index bytes 1) ++ drop (block_len bytes) bytes)
    × FitsBlock (block_at bytes)
block_taken [] fits long = absurd (omega (arith, long))
block_taken (x ∷ []) fits long = absurd (omega (arith, long))
block_taken (x ∷ y ∷ more) fits long =
    let n : ℕ = big_number 2 more in
    let inside : 2 + n ≤ length more = omega (arith, long) in
    let w = wide2 more (IsBytes-drop 2 (x ∷ y ∷ more) fits) (omega (arith, inside)) in
    let size : length (take n (drop 2 more)) ≡ n =
    omega (arith, inside, length-take n (drop 2 more), length-drop {A = ℕ} 2 more) in
    let past : drop (4 + n) (x ∷ y ∷ more) ≡ drop n (drop 2 more) = sym (drop-drop n 4 (x ∷ y ∷ more)) in
    let number-is : take 2 more ≡ big_bytes 2 (length (take n (drop 2 more))) = sym w.0 ∙ ap (big_bytes 2) (sym size) in
    let whole : more ≡ (big_bytes 2 (length (take n (drop 2 more))) ++ take n (drop 2 more))
    ++ drop (4 + n) (x ∷ y ∷ more) =
    sym (take-append-drop 2 more) ∙ ap₂ (λ (a b : List ℕ). a ++ b) number-is (sym (take-append-drop n (drop 2 more))
    ∙ ap (λ (xs : List ℕ). take n (drop 2 more) ++ xs) (sym past))
    ∙ sym (append_assoc (big_bytes 2 (length (take n (drop 2 more)))) (take n (drop 2 more))
    (drop (4 + n) (x ∷ y ∷ more))) in
    (ap (λ (xs : List ℕ). x ∷ y ∷ xs) whole, (fits 0, omega (arith, size, w.1)))

pub record BlocksTake (n : ℕ) (bytes rest : List ℕ) : Type 0 where
  pub ignored : List ℕ
  pub parts : bytes ≡ blocks_bytes (blocks_in n bytes) ignored ++ rest
  pub fits : AllByRecursion FitsBlock (blocks_in n bytes)
  pub rest_fits : IsBytes rest

pub blocks_take : (n : ℕ) (bytes rest : List ℕ) → IsBytes bytes → skip_blocks n bytes ≡ Some rest
    → BlocksTake n bytes rest
blocks_take zero bytes rest fits e =
    let same : bytes ≡ rest = some_same bytes rest e in
    record { ignored = []; parts = same; fits = tt; rest_fits = subst IsBytes same fits }
blocks_take (suc n) bytes rest fits e =
    let w = first_whole n bytes rest e in
    let ih = blocks_take n (drop (block_len bytes) bytes) rest (IsBytes-drop (block_len bytes) bytes fits) w.1 in
    let b = block_taken bytes fits w.0 in
    let second : ℕ = slice_index bytes 1 in
    record {
      ignored = second ∷ ih.ignored;
      parts = b.0 ∙ ap (λ (xs : List ℕ). block_bytes (block_at bytes) second ++ xs) ih.parts
          ∙ sym (append_assoc (block_bytes (block_at bytes) second)
          (blocks_bytes (blocks_in n (drop (block_len bytes) bytes)) ih.ignored) rest);
      fits = (b.1, ih.fits);
      rest_fits = ih.rest_fits;
    }

pub cells_take : (n : ℕ) (bytes : List ℕ) → IsBytes bytes → length bytes ≡ 4 * n
    → (bytes ≡ flat_map cell_bytes (cells_in n bytes)) × AllByRecursion FitsCell (cells_in n bytes)
cells_take zero bytes fits e = (drop_all 0 bytes (omega (arith, e)), tt)
cells_take (suc n) bytes fits e =
    let w = wide4 bytes fits (omega (arith, e)) in
    let t = cell_taken (big_number 4 bytes) w.1 in
    let ih = cells_take n (drop 4 bytes) (IsBytes-drop 4 bytes fits)
    (omega (arith, e, length-drop {A = ℕ} 4 bytes)) in (
      sym (take-append-drop 4 bytes) ∙ ap₂ (λ (a b : List ℕ). a ++ b) (sym w.0 ∙ ap (big_bytes 4) (sym t.1))
          ih.0,
      (t.0, ih.1),
    )
