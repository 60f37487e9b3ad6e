-- Lines and strips of words are those of the map.
use Rattle.std.proofs.Common.{◌≡◌, ℕ, zero, suc, ◌+◌, ◌-◌, ◌*◌, ◌<◌, ◌≤◌, List}
use Rattle.std.proofs.Common.{◌++◌}
use Rattle.std.proofs.Common.{length, take, drop, Option, Some}
use Rattle.std.proofs.Common.{None, refl, ap, ap₂, sym, ◌∙◌, arith, append_assoc, append-nil}
use Rattle.std.specs.Prelude.{slice_get}
use Rattle.std.specs.FinMap.{get}
use Rattle.std.specs.List.{flat_map, range_with_len}
use Rattle.std.proofs.lemmas.Grind.{flat_map-append}
use Rattle.std.proofs.lemmas.List.{drop-drop, drop_at}
use Rattle.std.proofs.lemmas.Bool.{eqb-true}
use Rattle.std.proofs.lemmas.Nat.{div-add-mod'}
use Rattle.byteorder.specs.Endian.{big_bytes, big_number}
use Rattle.byteorder.specs.Numbers.{big_number-reads_back}
use Rattle.terms.proofs.RangeLemmas.{places_more}
use Rattle.plp_config.specs.Capacity.{IsPlan}
use Rattle.plp_config.specs.declared.config.Config.{Config}
use Rattle.scheduler.specs.Shape.{FrameShape}
use Rattle.cell_map.specs.CellMap.{Passes, cell_map}
use Rattle.cell_map.specs.Laws.{CellsFit}
use Rattle.cell_map.specs.Stretches.{HasStrip, HasStretch, stretch_len}
use Rattle.cell_map.specs.declared.places.Cell.{Cell}
use Rattle.cell_map.specs.declared.strips.Strip.{Strip}
use Rattle.cell_map.specs.declared.strips.Stretch.{Stretch}
use Rattle.cell_map.specs.declared.strips.Stretch.TheVariants.{Dummy, Blocks}
use Rattle.site_frame.specs.Record.{FitsCell, cell_bytes, cell_of, word_of, dummy_word}
use Rattle.site_frame.specs.Reading.{cells_in}
use Rattle.site_frame.proofs.BlockLemmas.{cell_at}
use Rattle.site_frame.proofs.FieldLemmas.{word_again}
use Rattle.site_frame.specs.Lines.{line_bytes, first_word, strip_bytes, FitsStretch}
use Rattle.site_frame.specs.Words.{words}
use Rattle.site_frame.proofs.WordLemmas.{word_at, words_split, words_more, length-words}

-- ---- one more
flat_more : (f : ℕ → List ℕ) (n : ℕ) → flat_map f (range_with_len 0 (n + 1)) ≡ flat_map f (range_with_len 0 n) ++ f n
flat_more f n = grind (arith, places_more, flat_map-append, append-nil)

pub line_more : (word stride n : ℕ) → line_bytes word stride (n + 1) ≡ line_bytes word stride n
    ++ big_bytes 4 (word + n * stride)
line_more word stride n = flat_more (λ z. big_bytes 4 (word + z * stride)) n

pub strip_more : (strip : Strip) (n : ℕ) → strip_bytes strip (n + 1) ≡ strip_bytes strip n
    ++ line_bytes (first_word strip n) strip.stride strip.columns
strip_more strip n = flat_more (λ b. line_bytes (first_word strip b) strip.stride strip.columns) n

-- what was put, and one part more
pub part_on : (old out new done part all : List ℕ) (at to : ℕ) → take at out ≡ old ++ done
    → take to new ≡ take at out ++ part
    → all ≡ done ++ part → take to new ≡ old ++ all
part_on old out new done part all at to e f g = f ∙ ap (λ (l : List ℕ). l ++ part) e ∙ append_assoc old done part
    ∙ ap (λ (l : List ℕ). old ++ l) (sym g)

-- ---- they are those of the map
pub line_words : (c : Config) (shape : FrameShape) (frame : ℕ) (address word stride n : ℕ)
    → ((z : ℕ) → z < n → word_at c shape frame (address + z) ≡ big_bytes 4 (word + z * stride))
    → words c shape frame address n ≡ line_bytes word stride n
line_words c shape frame address word stride zero h = refl
line_words c shape frame address word stride (suc n) h =
    let e : suc n ≡ n + 1 = omega arith in
    ap (words c shape frame address) e
    ∙ words_more c shape frame n address
    ∙ ap₂ (λ (x y : List ℕ). x ++ y) (line_words c shape frame address word stride n (λ z l. h z (omega (arith, l))))
    (h n (omega arith))
    ∙ sym (line_more word stride n)
    ∙ ap (line_bytes word stride) (sym e)

-- the cells of a block of a strip
block_line : (c : Config) (shape : FrameShape) (frame : ℕ) (address : ℕ) (strip : Strip) (b : ℕ)
    → ((z : ℕ) → z < strip.columns
    → get (cell_map c shape frame) (address + (strip.columns * b + z))
    ≡ Some (record { ordinal = strip.first.ordinal + b; cell = strip.first.cell + z * strip.stride }))
    → words c shape frame (address + strip.columns * b) strip.columns ≡ line_bytes (first_word strip b)
    strip.stride strip.columns
block_line c shape frame address strip b h = grind (arith, line_words, word_at)

blocks_words : (c : Config) (shape : FrameShape) (frame : ℕ) (address : ℕ) (strip : Strip) (n : ℕ)
    → ((b z : ℕ) → b < n → z
    < strip.columns
    → get (cell_map c shape frame) (address + (strip.columns * b + z))
    ≡ Some (record { ordinal = strip.first.ordinal + b; cell = strip.first.cell + z * strip.stride }))
    → words c shape frame address (strip.columns * n) ≡ strip_bytes strip n
blocks_words c shape frame address strip zero h = let none : strip.columns * 0 ≡ 0 = omega arith in ap
    (words c shape frame address) none
blocks_words c shape frame address strip (suc n) h =
    let e : suc n ≡ n + 1 = omega arith in
    let wide : strip.columns * suc n ≡ strip.columns * n + strip.columns = omega arith in
    ap (words c shape frame address) wide
    ∙ words_split c shape frame (strip.columns * n) strip.columns address
    ∙ ap₂ (λ (x y : List ℕ). x ++ y) (blocks_words c shape frame address strip n
    (λ b z p q. h b z (omega (arith, p)) q))
    (block_line c shape frame address strip n (λ z l. h n z (omega arith) l))
    ∙ sym (strip_more strip n)
    ∙ ap (strip_bytes strip) (sym e)

pub strip_words : (c : Config) (shape : FrameShape) (frame : ℕ) (address : ℕ) (strip : Strip)
    → HasStrip c shape frame address strip
    → words c shape frame address (strip.columns * strip.blocks) ≡ strip_bytes strip strip.blocks
strip_words c shape frame address strip h = blocks_words c shape frame address strip strip.blocks h

pub dummy_words : (c : Config) (shape : FrameShape) (frame : ℕ) (address n : ℕ)
    → ((i : ℕ) → i < n → get (cell_map c shape frame) (address + i) ≡ None) → words c shape frame address n
    ≡ line_bytes dummy_word 0 n
dummy_words c shape frame address n h = grind (arith, line_words)

-- ---- small numbers
pub stretch_fits : CellsFit → (c : Config) (shape : FrameShape) (frame : ℕ) (address : ℕ) (stretch : Stretch) → IsPlan c
    → Passes c shape
    → 0 < stretch_len stretch → HasStretch c shape frame address stretch → FitsStretch stretch
stretch_fits law c shape frame address (Dummy count) plan passes some h = tt
stretch_fits law c shape frame address (Blocks strip) plan passes some h =
    let blocks : 0 < strip.blocks = positive strip.columns strip.blocks some in
    let turned : 0 < strip.blocks * strip.columns = omega (arith, some) in
    let columns : 0 < strip.columns = positive strip.blocks strip.columns turned in
    let last : strip.blocks - 1 < strip.blocks = omega (arith, blocks) in
    let small = λ (b z : ℕ) (p : b < strip.blocks) (q : z < strip.columns).
    law c shape frame (address + (strip.columns * b + z))
    (record { ordinal = strip.first.ordinal + b; cell = strip.first.cell + z * strip.stride }) plan passes
    (h b z p q) in
    let top = small (strip.blocks - 1) 0 last columns in
    let none : 0 * strip.stride ≡ 0 = omega arith in
    record {
      blocks = omega (arith, top.0, blocks);
      first = omega (arith, top.1, none);
      cells = λ z l. (small 0 z blocks l).1;
    }
  where
    positive : (a b : ℕ) → 0 < a * b → 0 < b
    positive a zero h = (let none : a * 0 ≡ 0 = omega arith in absurd (omega (arith, h, none)))
    positive a (suc b) h = omega arith

-- ---- what words spell
fits_at : CellsFit → (c : Config) (shape : FrameShape) (frame : ℕ) (address : ℕ) → IsPlan c → Passes c shape
    → (o : Option Cell)
    → get (cell_map c shape frame) address ≡ o → FitsCell o
fits_at law c shape frame address plan passes None e = tt
fits_at law c shape frame address plan passes (Some cell) e =
    let small = law c shape frame address cell plan passes e in
    (omega (arith, small), omega (arith, small))

-- the word of a cell, found among them
word_in : CellsFit → (c : Config) (shape : FrameShape) (frame : ℕ) (address n i : ℕ) → IsPlan c → Passes c shape → i < n
    → big_number 4 (drop (4 * i) (words c shape frame address n)) ≡ word_of (get (cell_map c shape frame) (address + i))
word_in law c shape frame address n i plan passes l =
    let o : Option Cell = get (cell_map c shape frame) (address + i) in
    let m : ℕ = n - (i + 1) in
    let rest : List ℕ = words c shape frame (address + i + 1) m in
    let e : n ≡ i + suc m = omega (arith, l) in
    let parts : words c shape frame address n ≡ words c shape frame address i ++ (cell_bytes o ++ rest) = ap
    (words c shape frame address) e
    ∙ words_split c shape frame i (suc m) address in
    let behind : drop (4 * i) (words c shape frame address n) ≡ cell_bytes o ++ rest =
    ap (drop (4 * i)) parts ∙ drop_at (words c shape frame address i) (cell_bytes o ++ rest) (4 * i)
    (length-words c shape frame i address) in
    ap (big_number 4) behind ∙ big_number-reads_back 4 (word_of o) rest
    (word_again o (fits_at law c shape frame (address + i) plan passes o refl)).0

-- a record whose word is that of the map has its cell
pub agreed : CellsFit → (c : Config) (shape : FrameShape) (frame : ℕ) (address n i : ℕ) (cells : List (Option Cell))
    (bytes buffer : List ℕ)
    → IsPlan c → Passes c shape → i < n → address + n ≤ length cells
    → cells ≡ cells_in (length cells) bytes → buffer ≡ words c shape frame address n
    → big_number 4 (drop (4 * i) buffer)
    ≡ big_number 4 (drop (4 * i) (drop (4 * address) bytes))
    → slice_get cells (address + i) ≡ Some (get (cell_map c shape frame) (address + i))
agreed law c shape frame address n i cells bytes buffer plan passes l inside e f same =
    grind (arith, Option, drop-drop, word_in, cell_at, word_again, fits_at)

-- a word is told by its cell
word_back : (w : ℕ) → word_of (cell_of w) ≡ w
word_back w = grind (arith, eqb-true, div-add-mod')

-- a record that has the cell of the map has its word
pub agrees : CellsFit → (c : Config) (shape : FrameShape) (frame : ℕ) (address n i : ℕ) (cells : List (Option Cell))
    (bytes buffer : List ℕ)
    → IsPlan c → Passes c shape → i < n → address + n ≤ length cells
    → cells ≡ cells_in (length cells) bytes → buffer ≡ words c shape frame address n
    → slice_get cells (address + i) ≡ Some (get (cell_map c shape frame) (address + i))
    → big_number 4 (drop (4 * i) buffer) ≡ big_number 4 (drop (4 * i) (drop (4 * address) bytes))
agrees law c shape frame address n i cells bytes buffer plan passes l inside e f there =
    grind (arith, Option, drop-drop, cell_at, word_in, word_back)
