-- What a writer gives of a frame is its record.
use Rattle.std.proofs.Common.{◌≡◌, ℕ, suc, ◌+◌, ◌*◌, ◌^◌, ◌<◌, ◌≤◌, Bool, List, [], ◌∷◌, ◌++◌, length, refl, sym, subst}
use Rattle.std.proofs.Common.{ap, ap₂, ◌∙◌, arith, append_assoc, append-nil, length-append}
use Rattle.std.specs.Prelude.{map, sum, sum_by, slice_index, slice_index_or}
use Rattle.std.specs.List.{concat, flat_map, range_with_len, AllByRecursion}
use Rattle.std.proofs.lemmas.List.FromFn.{length-map-range_with_len}
use Rattle.std.specs.FinMap.{get}
use Rattle.std.proofs.lemmas.Bool.{cond_both}
use Rattle.std.proofs.lemmas.List.{length-map}
use Rattle.std.proofs.lemmas.List.Sums.{sum_by-cons}
use Rattle.terms.specs.Bits.{bytes_of, bytes_for}
use Rattle.terms.proofs.AllLemmas.{all_append}
use Rattle.terms.proofs.BitLemmas.{length-bytes_of}
use Rattle.byteorder.specs.Endian.{big_bytes}
use Rattle.plp_config.specs.Capacity.{block_bytes}
use Rattle.plp_config.specs.Laws.{FieldRange}
use Rattle.plp_config.specs.Places.{places}
use Rattle.plp_config.specs.Plps.{plp_at}
use Rattle.plp_config.specs.InterleavingFrames.{is_first}
use Rattle.plp_config.specs.declared.config.Config.{Config}
use Rattle.scheduler.specs.Shape.{FrameShape}
use Rattle.cell_map.specs.CellMap.{cell_map}
use Rattle.l1_signal.specs.L1Configurable.{conf_bits}
use Rattle.l1_signal.specs.L1Of.{conf_of}
use Rattle.l1_signal.specs.Laws.{PreBitsLength, ConfPartLength}
use Rattle.site_frame.specs.Laws.{BlocksInOrder}
use Rattle.site_frame.specs.Record.{Block, frame_kind, muted_kind, head_bytes, block_bytes as spelled_block}
use Rattle.site_frame.specs.Record.{blocks_bytes, cell_bytes}
use Rattle.site_frame.specs.Whole.{written_rest, block_size}
use Rattle.record_laws.specs.Frames.{l1_pre, frame_cells, HasByteIds}
use Rattle.record_laws.specs.Laws.{IsSentBlock, EveryFrameFits, blocks_size}
use Rattle.site_frame.specs.Words.{words}
use Rattle.open_group.specs.Front.{post_with}
use Rattle.open_group.specs.RecordBytes.{own_count, list_at, plp_block, sent_bytes, list_blocks, lists_bytes}
use Rattle.open_group.specs.WriterLaws.{written_frame, RecordWritten, MutedWritten, HasBlocks, BlockCount, post_size}
use Rattle.open_group.specs.WriterLaws.{RestLength, RecordFits}
use Rattle.record_laws.proofs.FitLemmas.{length-l1_pre, room_for_all}
use Rattle.open_group.proofs.FittingLemmas.{length-crc_behind}
use Rattle.open_group.proofs.ScrambleLemmas.{length-scrambled_bytes}
use Rattle.site_frame.proofs.WordLemmas.{length-words}

-- ---- the sections one behind another

-- the bytes of blocks are those of the lists
plp_bytes : (c : Config) (plp : ℕ) (blocks : List (List ℕ)) (more : List Block)
    → flat_map (λ b. spelled_block b 0) (map (plp_block c plp) blocks ++ more) ≡ flat_map (sent_bytes c plp) blocks
    ++ flat_map (λ b. spelled_block b 0) more
plp_bytes c plp [] more = refl
plp_bytes c plp (b ∷ blocks) more =
    ap (λ (l : List ℕ). sent_bytes c plp b ++ l) (plp_bytes c plp blocks more)
    ∙ sym (append_assoc (sent_bytes c plp b) (flat_map (sent_bytes c plp) blocks)
    (flat_map (λ b. spelled_block b 0) more))

all_bytes : (c : Config) (plp : ℕ) (lists : List (List (List ℕ))) → flat_map (λ b. spelled_block b 0)
    (list_blocks c plp lists)
    ≡ lists_bytes c plp lists
all_bytes c plp [] = refl
all_bytes c plp (blocks ∷ lists) =
    plp_bytes c plp blocks (list_blocks c (plp + 1) lists)
    ∙ ap (λ (l : List ℕ). flat_map (sent_bytes c plp) blocks ++ l)
    (all_bytes c (plp + 1) lists)

-- the words are those of the cells
words_are : (c : Config) (shape : FrameShape) (frame_idx : ℕ) (addresses : List ℕ)
    → flat_map cell_bytes (map (get (cell_map c shape frame_idx)) addresses)
    ≡ flat_map (λ a. cell_bytes (get (cell_map c shape frame_idx) a)) addresses
words_are c shape frame_idx [] = refl
words_are c shape frame_idx (a ∷ addresses) =
    ap (λ (l : List ℕ). cell_bytes (get (cell_map c shape frame_idx) a) ++ l) (words_are c shape frame_idx addresses)

-- what is given in two parts, section by section
joined : (head pre post count blocks cells words : List ℕ)
    → (head ++ (pre ++ (post ++ count))) ++ (blocks ++ (cells ++ words))
    ≡ head ++ (pre ++ (post ++ ((count ++ blocks) ++ ((cells ++ words) ++ []))))
joined head pre post count blocks cells words = simp (append_assoc, append-nil) refl

pub record_written : BlocksInOrder → RecordWritten
record_written order c moment frame_idx dynamic shape lists =
    let post : List Bool = post_with c dynamic in
    let blocks : List Block = list_blocks c 0 lists in
    let head : List ℕ =
    head_bytes frame_kind moment
    (length (concat (written_rest (written_frame c moment frame_idx dynamic shape lists)))) in
    let pre : List ℕ = bytes_of (l1_pre c) in
    let bits : List ℕ = big_bytes 4 (length post) in
    let count : List ℕ = big_bytes 2 (length blocks) in
    let spelled : blocks_bytes blocks [] ≡ lists_bytes c 0 lists = order blocks ∙ all_bytes c 0 lists in
    let all : flat_map cell_bytes (frame_cells c shape frame_idx) ≡ words c shape frame_idx 0 c.cells =
    words_are c shape frame_idx (range_with_len 0 c.cells) in
    joined head pre (bits ++ bytes_of post) count (lists_bytes c 0 lists) (big_bytes 4 c.cells)
    (words c shape frame_idx 0 c.cells)
    ∙ ap₂ (λ (p b : List ℕ).
    head ++ (pre ++ ((bits ++ p) ++ ((count ++ b) ++ ((big_bytes 4 c.cells ++ words c shape frame_idx 0 c.cells)
    ++ [])))))
    (ap bytes_of (sym (append-nil post))) (sym spelled)
    ∙ ap₂ (λ (n : ℕ) (w : List ℕ).
    head ++ (pre ++ ((bits ++ bytes_of (post ++ [])) ++ ((count ++ blocks_bytes blocks [])
    ++ ((big_bytes 4 n ++ w) ++ [])))))
    (sym (length-map-range_with_len (get (cell_map c shape frame_idx)) 0 c.cells)) (sym all)

pub muted_written : MutedWritten
muted_written moment = sym (append-nil (head_bytes muted_kind moment 0))

-- ---- how many bytes they have

pub block_count : BlockCount
block_count c count lists h =
    counted 0 lists (λ i lt. let e : 0 + i ≡ i = omega arith in ap count e ∙ sym (h.counts i lt))
    ∙ ap (λ (n : ℕ). sum_by count (range_with_len 0 n)) h.plps
  where
    counted : (plp : ℕ) (lists : List (List (List ℕ)))
        → ((i : ℕ) → i < length lists → count (plp + i) ≡ length (list_at lists i))
        → length (list_blocks c plp lists) ≡ sum_by count (range_with_len plp (length lists))
    counted plp [] each = refl
    counted plp (blocks ∷ lists) each =
        let same : plp + 0 ≡ plp = omega arith in
        let here : count plp ≡ length blocks = ap count (sym same) ∙ each 0 (omega arith) in
        let more = counted (plp + 1) lists
        (λ i lt. let e : plp + suc i ≡ plp + 1 + i = omega arith in ap count (sym e)
        ∙ each (suc i) (omega (arith, lt))) in
        let size = length-append (map (plp_block c plp) blocks) (list_blocks c (plp + 1) lists) in
        let one = length-map blocks (plp_block c plp) in
        let all = sum_by-cons count plp (range_with_len (plp + 1) (length lists)) in
        omega (arith, here, more, size, one, all)

-- blocks of one length
plp_size : (c : Config) (plp size : ℕ) (blocks : List (List ℕ))
    → ((place : ℕ) → place < length blocks → length (slice_index_or blocks place []) ≡ size)
    → length (flat_map (sent_bytes c plp) blocks) ≡ length blocks * (4 + size)
plp_size c plp size [] each = omega arith
plp_size c plp size (b ∷ blocks) each =
    let here : length b ≡ size = each 0 (omega arith) in
    let more = plp_size c plp size blocks (λ place lt. each (suc place) (omega (arith, lt))) in
    let one : length (sent_bytes c plp b) ≡ 4 + length b = let s = length-scrambled_bytes b in omega (arith, s) in
    omega (arith, length-append (sent_bytes c plp b) (flat_map (sent_bytes c plp) blocks), here, more, one)

-- the lists of the PLPs from one on
lists_size : (c : Config) (count : ℕ → ℕ) (from : ℕ) (lists : List (List (List ℕ)))
    → ((i : ℕ) → i < length lists → count (from + i) ≡ length (list_at lists i))
    → ((i place : ℕ) → place < length (list_at lists i) → length (slice_index_or (list_at lists i) place [])
    ≡ block_bytes c (from + i))
    → length (lists_bytes c from lists) ≡ sum_by (λ plp. count plp * (4 + block_bytes c plp))
    (range_with_len from (length lists))
lists_size c count from [] counts each = refl
lists_size c count from (blocks ∷ lists) counts each =
    let same : from + 0 ≡ from = omega arith in
    let here : count from ≡ length blocks = ap count (sym same) ∙ counts 0 (omega arith) in
    let size = plp_size c from (block_bytes c from) blocks (λ place lt. each 0 place lt ∙ ap (block_bytes c) same) in
    let more = lists_size c count (from + 1) lists
    (λ i lt. let e : from + 1 + i ≡ from + suc i = omega arith in ap count e ∙ counts (suc i) (omega (arith, lt)))
    (λ i place lt. let e : from + suc i ≡ from + 1 + i = omega arith in each (suc i) place lt ∙ ap (block_bytes c) e) in
    length-append (flat_map (sent_bytes c from) blocks) (lists_bytes c (from + 1) lists)
    ∙ ap₂ (λ (a b : ℕ). a + b) (size ∙ ap (λ (n : ℕ). n * (4 + block_bytes c from)) (sym here)) more
    ∙ sym (sum_by-cons (λ plp. count plp * (4 + block_bytes c plp)) from (range_with_len (from + 1) (length lists)))

-- those of all
all_size : (c : Config) (count : ℕ → ℕ) (lists : List (List (List ℕ))) → HasBlocks c count lists
    → length (lists_bytes c 0 lists) ≡ blocks_size c count
all_size c count lists h =
    lists_size c count 0 lists
    (λ i lt. let e : 0 + i ≡ i = omega arith in ap count e ∙ sym (h.counts i lt))
    (λ i place lt. let e : i ≡ 0 + i = omega arith in h.each i place lt ∙ ap (block_bytes c) e)
    ∙ ap (λ (n : ℕ). sum_by (λ plp. count plp * (4 + block_bytes c plp)) (range_with_len 0 n)) h.plps

-- the sizes of the blocks are those of their bytes
plp_sized : (c : Config) (plp : ℕ) (blocks : List (List ℕ)) (more : List Block)
    → sum_by block_size (map (plp_block c plp) blocks ++ more)
    ≡ length (flat_map (sent_bytes c plp) blocks) + sum_by block_size more
plp_sized c plp [] more = omega arith
plp_sized c plp (b ∷ blocks) more =
    let one : length (sent_bytes c plp b) ≡ 4 + length b = let s = length-scrambled_bytes b in omega (arith, s) in
    omega (
      arith,
      one,
      plp_sized c plp blocks more,
      length-append (sent_bytes c plp b) (flat_map (sent_bytes c plp) blocks),
      sum_by-cons block_size (plp_block c plp b) (map (plp_block c plp) blocks ++ more),
    )

all_sized : (c : Config) (plp : ℕ) (lists : List (List (List ℕ))) → sum_by block_size (list_blocks c plp lists)
    ≡ length (lists_bytes c plp lists)
all_sized c plp [] = refl
all_sized c plp (blocks ∷ lists) =
    omega (
      arith,
      plp_sized c plp blocks (list_blocks c (plp + 1) lists),
      all_sized c (plp + 1) lists,
      length-append (flat_map (sent_bytes c plp) blocks) (lists_bytes c (plp + 1) lists),
    )

-- the bytes of four sections
four_sections : (a b c d : List ℕ) → length (concat (a ∷ b ∷ c ∷ d ∷ [])) ≡ length
    a + (length b + (length c + length d))
four_sections a b c d =
    omega (
      arith,
      length-append a (b ++ (c ++ (d ++ []))),
      length-append b (c ++ (d ++ [])),
      length-append c (d ++ []),
      length-append d [],
    )

-- the bits of L1-post
length-post_with : ConfPartLength → (c : Config) (dynamic : List Bool) → length (post_with c dynamic)
    ≡ post_size c (length dynamic)
length-post_with law c dynamic =
    omega (
      arith,
      length-crc_behind (conf_bits (conf_of c) ++ dynamic),
      length-append (conf_bits (conf_of c))
          dynamic,
      law c,
    )

pub rest_length : PreBitsLength → ConfPartLength → BlocksInOrder → RestLength
rest_length bits conf order c moment frame_idx dynamic shape count lists h =
    let post : List Bool = post_with c dynamic in
    let blocks : List Block = list_blocks c 0 lists in
    let pre_size : length (bytes_of (l1_pre c)) ≡ 25 = length-bytes_of (l1_pre c)
    ∙ ap bytes_for (length-l1_pre bits c) in
    let post_bytes : length (bytes_of (post ++ [])) ≡ bytes_for (post_size c (length dynamic)) =
    length-bytes_of (post ++ []) ∙ ap (λ (p : List Bool). bytes_for (length p)) (append-nil post)
    ∙ ap bytes_for (length-post_with conf c dynamic) in
    let long : length (big_bytes 4 (length post) ++ bytes_of (post ++ [])) ≡ 4 + bytes_for
    (post_size c (length dynamic)) =
    omega (arith, post_bytes) in
    let all = all_size c count lists h in
    let sized : length (big_bytes 2 (length blocks) ++ blocks_bytes blocks [])
    ≡ 2 + blocks_size c count =
    omega (arith, ap (λ (l : List ℕ). length l) (order blocks ∙ all_bytes c 0 lists), all) in
    let cells : length (big_bytes 4 (length (frame_cells c shape frame_idx))
    ++ flat_map cell_bytes (frame_cells c shape frame_idx))
    ≡ 4 + 4 * c.cells =
    omega (
      arith,
      ap (λ (l : List ℕ). length l) (words_are c shape frame_idx (range_with_len 0 c.cells)),
      length-words c shape frame_idx c.cells 0,
      length-map-range_with_len (get (cell_map c shape frame_idx)) 0 c.cells,
    ) in
    four_sections (bytes_of (l1_pre c)) (big_bytes 4 (length post) ++ bytes_of (post ++ []))
    (big_bytes 2 (length blocks) ++ blocks_bytes blocks [])
    (big_bytes 4 (length (frame_cells c shape frame_idx)) ++ flat_map cell_bytes (frame_cells c shape frame_idx))
    ∙ omega (arith, pre_size, long, sized, cells)

-- ---- it fits

plp_is_sent : (c : Config) (plp : ℕ) (blocks : List (List ℕ)) → (plp_at c.plps plp).id < 2 ^ 8
    → ((place : ℕ) → place < length blocks → length (slice_index_or blocks place []) ≤ 6730)
    → AllByRecursion IsSentBlock (map (plp_block c plp) blocks)
plp_is_sent c plp [] id each = tt
plp_is_sent c plp (b ∷ blocks) id each = (
  (id, (let s = length-scrambled_bytes b in let e = each 0 (omega arith) in omega (arith, s, e))),
  plp_is_sent c plp blocks id (λ place lt. each (suc place) (omega (arith, lt))),
)

lists_are_sent : FieldRange → (c : Config) (from : ℕ) (lists : List (List (List ℕ))) → HasByteIds c
    → from + length lists
    ≤ length c.plps
    → ((i place : ℕ) → place < length (list_at lists i) → length (slice_index_or (list_at lists i) place [])
    ≡ block_bytes c (from + i))
    → AllByRecursion IsSentBlock (list_blocks c from lists)
lists_are_sent field c from [] ids inside each = tt
lists_are_sent field c from (blocks ∷ lists) ids inside each =
    all_append IsSentBlock (map (plp_block c from) blocks) (list_blocks c (from + 1) lists)
    (plp_is_sent c from blocks (ids from (omega (arith, inside))) (λ place lt. let f = field c (from + 0) in
    omega (arith, each 0 place lt, f)))
    (lists_are_sent field c (from + 1) lists ids (omega (arith, inside))
    (λ i place lt. let e : from + suc i ≡ from + 1 + i = omega arith in each (suc i) place lt ∙ ap (block_bytes c) e))

own-le : (c : Config) (n : ℕ) (shape : FrameShape) (plp : ℕ) → own_count c n shape plp ≤ slice_index shape.counts plp
own-le c n shape plp = cond_both (is_first c plp n) (slice_index shape.counts plp) 0
    (λ k. k ≤ slice_index shape.counts plp)
    (λ e. omega arith) (λ e. omega arith)

-- a record has no more blocks than the shape of its frame tells
sum-le : (f : ℕ → ℕ) (from : ℕ) (counts : List ℕ) → ((i : ℕ) → i < length counts → f (from + i) ≤ slice_index counts i)
    → sum_by f (range_with_len from (length counts)) ≤ sum counts
sum-le f from [] each = omega arith
sum-le f from (k ∷ counts) each =
    let same : from + 0 ≡ from = omega arith in
    let here : f from ≤ k = subst (λ (j : ℕ). f j ≤ k) same (each 0 (omega arith)) in
    let more = sum-le f (from + 1) counts
    (λ i lt. let e : from + suc i ≡ from + 1 + i = omega arith in
    subst (λ (j : ℕ). f j ≤ slice_index counts i) e (each (suc i) (omega (arith, lt)))) in
    let one = sum_by-cons f from (range_with_len (from + 1) (length counts)) in
    let all = sum_by-cons (λ (x : ℕ). x) k counts in
    omega (arith, here, more, one, all)

own_sum : (c : Config) (n : ℕ) (shape : FrameShape) → length shape.counts ≡ length c.plps
    → sum_by (own_count c n shape) (places c) ≤ sum shape.counts
own_sum c n shape rows =
    subst (λ (k : ℕ). sum_by (own_count c n shape) (range_with_len 0 k) ≤ sum shape.counts) rows
    (sum-le (own_count c n shape) 0 shape.counts
    (λ i lt. let e : i ≡ 0 + i = omega arith in
    subst (λ (j : ℕ). own_count c n shape j ≤ slice_index shape.counts i) e (own-le c n shape i)))

pub record_fits : ConfPartLength → FieldRange → EveryFrameFits → RecordFits
record_fits conf field every c n frame_idx dynamic shape lists is ids small short rows passes h =
    let count : ℕ → ℕ = own_count c n shape in
    let few : (plp : ℕ) → plp < length c.plps → count plp ≤ (plp_at c.plps plp).blocks =
    λ plp lt. omega (arith, own-le c n shape plp, passes.counts plp lt) in
    let room = room_for_all c count few in
    every c n frame_idx (post_with c dynamic) (list_blocks c 0 lists) shape is small
    (omega (arith, length-post_with conf c dynamic, short))
    rows
    passes
    (omega (arith, block_count c count lists h, own_sum c n shape rows))
    (omega (arith, all_sized c 0 lists, all_size c count lists h, room))
    (lists_are_sent field c 0 lists ids (omega (arith, h.plps)) (λ i place lt. let e : i ≡ 0 + i = omega arith in
    h.each i place lt ∙ ap (block_bytes c) e))
