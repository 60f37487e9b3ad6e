-- The frames of a plan fit a record.
use Rattle.std.proofs.Common.{◌≡◌, ℕ, zero, suc, ◌+◌, ◌-◌, ◌*◌, ◌/◌, ◌^◌, ◌<◌, ◌≤◌, ◌%◌, ◌==◌, ◌&&◌, Bool, true, false}
use Rattle.std.proofs.Common.{cond}
use Rattle.std.proofs.Common.{Option, Some, None, List, [], ◌∷◌, length, refl, sym, ap, ap₂, subst, ◌∙◌, arith, lit≤}
use Rattle.std.specs.Prelude.{map, find, min, sum, sum_by, slice_index}
use Rattle.std.specs.List.{flat_map, range_with_len, AllByRecursion}
use Rattle.std.specs.FinMap.{get}
use Rattle.std.specs.Int.{div_ceil}
use Rattle.std.proofs.Math.Nat.{mul-le-mul}
use Rattle.std.proofs.lemmas.List.{length-append, length-map}
use Rattle.std.proofs.lemmas.List.FromFn.{get_or-map-range_with_len, length-map-range_with_len}
use Rattle.std.proofs.lemmas.List.Sums.{sum-map, sum_by-cons, sum_by-le-sum_by}
use Rattle.terms.specs.Bits.{bytes_for}
use Rattle.terms.proofs.BitLemmas.{length-field}
use Rattle.plp_config.specs.Capacity.{IsPlan, CellAddresses, RecordLength, block_bytes, field_bytes, capacity}
use Rattle.plp_config.specs.Capacity.{block_room}
use Rattle.plp_config.specs.Capacity.{longest_rest}
use Rattle.plp_config.specs.Emission.{emission}
use Rattle.plp_config.specs.Laws.{EmissionFits, FieldRange, SlotLength}
use Rattle.plp_config.specs.InterleavingFrames.{interleaving_frame, is_first}
use Rattle.plp_config.specs.Places.{places}
use Rattle.plp_config.specs.Plps.{plp_at}
use Rattle.plp_config.specs.Rules.{PlpCount}
use Rattle.plp_config.specs.SlotTime.{slots_by, epoch_ticks}
use Rattle.plp_config.specs.Tables.{info_bits}
use Rattle.plp_config.specs.declared.config.Config.{Config}
use Rattle.plp_config.specs.declared.config.TheConstants.{GREATEST_REST}
use Rattle.plp_config.specs.declared.plp.Plp.{Plp}
use Rattle.scheduler.specs.Laws.{CountsFit, ShapeHasCounts}
use Rattle.cell_map.specs.CellMap.{cell_map}
use Rattle.cell_map.specs.Laws.{CellsFit, ShapePasses}
use Rattle.cell_map.specs.declared.places.Cell.{Cell}
use Rattle.l1_signal.specs.L1Of.{pre_of, post_bits}
use Rattle.l1_signal.specs.L1Pre.{pre_bits}
use Rattle.l1_signal.specs.Laws.{PreBitsLength, PostLength}
use Rattle.l1_signal.specs.Lengths.{post_len}
use Rattle.mode_adapt.specs.Blocks.{block_bits, block_places, plp_keeps, rates_of, plp_blocks, own_blocks, told_count}
use Rattle.mode_adapt.specs.Blocks.{told_counts}
use Rattle.mode_adapt.specs.Laws.{CountLaw}
use Rattle.mode_adapt.specs.Queue.{sent, sent_before}
use Rattle.null_delete.specs.Deletion.{packet_at}
use Rattle.site_frame.specs.Record.{Block, FitsBlock, FitsCell}
use Rattle.site_frame.specs.Whole.{FitsRecord}
use Rattle.record_laws.specs.Frames.{frame_shape, sent_block, sent_blocks, frame_cells, l1_pre, frame_of, HasByteIds}
use Rattle.record_laws.specs.Laws.{IsSentBlock, blocks_size, FewBlocks, EveryFrameFits, MutedFits, FrameFits}
use Rattle.record_laws.specs.Laws.{RecordsFit}
use Rattle.record_laws.specs.Records.{numbers_from, record_of}
use Rattle.record_laws.proofs.RecordLemmas.{found}
use Rattle.site_frame.specs.declared.reading.RecordView.{RecordView}
use Rattle.site_frame.specs.declared.reading.RecordView.TheVariants.{Muted}
use Rattle.mode_adapt.proofs.FitsLemmas.{length-block}
use Rattle.record_laws.proofs.FrameLemmas.{block_len, cells_count, length-blocks}
use Rattle.terms.proofs.AllLemmas.{all_append, all_map}
use Rattle.bb_frame.specs.Laws.{BitCounts}

-- ---- L1-pre

pub length-l1_pre : PreBitsLength → (c : Config) → length (l1_pre c) ≡ 200
length-l1_pre law c = length-append (pre_bits (pre_of c)) _ ∙ ap₂ (λ (a b : ℕ). a + b) (law (pre_of c))
    (length-field 32 _)

-- ---- how many blocks a frame has

-- no interleaving frame has more blocks than it may
count_le : SlotLength → FieldRange → CountLaw → (c : Config) (inputs : ℕ → List (List ℕ)) (n plp : ℕ) → IsPlan c
    → plp < length c.plps → length (plp_blocks c inputs n plp) ≤ (plp_at c.plps plp).blocks
unfolding capacity
count_le slot field law c inputs n plp is lt =
    let at : ℕ → List ℕ = packet_at (inputs plp) in
    let s = slot c plp is.rules lt in
    let f = field c plp in
    let most = law (rates_of c plp (epoch_ticks c plp)) (plp_keeps c plp at) (field_bytes c plp)
    (plp_at c.plps plp).blocks n
    (omega (arith, s)) (omega (arith, f.0)) refl in
    let len : length (plp_blocks c inputs n plp)
    ≡ length (block_places (field_bytes c plp) (sent_before (rates_of c plp (epoch_ticks c plp)) (plp_keeps c plp at) n)
    (sent (rates_of c plp (epoch_ticks c plp)) (plp_keeps c plp at) n)) = length-map _ _ in
    omega (arith, most, len)

pub counts_fit : SlotLength → FieldRange → CountLaw → (c : Config) (inputs : ℕ → List (List ℕ)) (n : ℕ) → IsPlan c
    → CountsFit c (told_counts c inputs n)
counts_fit slot field law c inputs n is = record {
  whole = length-map-range_with_len (told_count c inputs n) 0 (length c.plps);
  within = λ plp lt.
      let here : slice_index (told_counts c inputs n) plp ≡ told_count c inputs n plp =
      get_or-map-range_with_len (told_count c inputs n) 0 (length c.plps) plp plp 0 lt (omega arith) in
      omega (arith, here, count_le slot field law c inputs (interleaving_frame c plp n) plp is lt);
}

-- those that are sent in a frame are no more than it tells
either_le : (b : Bool) (blocks : List (List Bool)) → length (cond b blocks []) ≤ length blocks
either_le true blocks = omega arith
either_le false blocks = omega arith

pub own_le : (c : Config) (inputs : ℕ → List (List ℕ)) (n plp : ℕ) → length (own_blocks c inputs n plp) ≤ told_count
    c inputs n plp
own_le c inputs n plp = either_le (is_first c plp n) (plp_blocks c inputs (interleaving_frame c plp n) plp)

-- no block has fewer than 883 bytes with its head, and so many are no more than those of the PLPs
few_for : FieldRange → (c : Config) (counts : List ℕ) (plps : List Plp) (from : ℕ) → length counts ≡ length plps
    → ((i : ℕ) → i < length plps → plp_at plps i ≡ plp_at c.plps (from + i))
    → ((i : ℕ) → i < length plps → slice_index counts i ≤ (plp_at plps i).blocks)
    → 883 * sum counts ≤ sum_by block_room plps
unfolding block_bytes
few_for field c [] [] from len at each = omega arith
few_for field c [] (p ∷ plps) from len at each = absurd (omega (arith, len))
few_for field c (n ∷ counts) [] from len at each = absurd (omega (arith, len))
few_for field c (n ∷ counts) (p ∷ plps) from len at each =
    let first : n ≤ p.blocks = each 0 (omega arith) in
    let same : from ≡ from + 0 = omega arith in
    let is : p ≡ plp_at c.plps from = at 0 (omega arith) ∙ ap (plp_at c.plps) (sym same) in
    let f = field c from in
    let wide : 883 ≤ 4 + block_bytes c from = omega (arith, f) in
    let bytes : 883 ≤ 4 + info_bits p.fec p.rate / 8 = subst (λ (q : Plp). 883 ≤ 4 + info_bits q.fec q.rate / 8)
    (sym is) wide in
    let both : n * 883 ≤ block_room p = mul-le-mul first bytes in
    let more = few_for field c counts plps (from + 1) (omega (arith, len))
    (λ i lt. let e : from + suc i ≡ from + 1 + i = omega arith in at (suc i) (omega (arith, lt)) ∙ ap (plp_at c.plps) e)
    (λ i lt. each (suc i) (omega (arith, lt))) in
    omega (arith, both, more, sum_by-cons (λ x. x) n counts, sum_by-cons block_room p plps)

-- so many blocks of the PLPs from one on have no more bytes than all that these may have
room_from : (c : Config) (count : ℕ → ℕ) (plps : List Plp) (from : ℕ)
    → ((i : ℕ) → i < length plps → plp_at plps i ≡ plp_at c.plps (from + i))
    → ((i : ℕ) → i < length plps → count (from + i) ≤ (plp_at plps i).blocks)
    → sum_by (λ plp. count plp * (4 + block_bytes c plp)) (range_with_len from (length plps)) ≤ sum_by block_room plps
unfolding block_bytes
room_from c count [] from at each = omega arith
room_from c count (p ∷ plps) from at each =
    let same : from ≡ from + 0 = omega arith in
    let is : p ≡ plp_at c.plps from = at 0 (omega arith) ∙ ap (plp_at c.plps) (sym same) in
    let few : count from ≤ p.blocks = subst (λ (k : ℕ). count k ≤ p.blocks) (sym same) (each 0 (omega arith)) in
    let size : 4 + block_bytes c from ≡ 4 + info_bits p.fec p.rate / 8 =
    ap (λ (q : Plp). 4 + info_bits q.fec q.rate / 8) (sym is) in
    let here : count from * (4 + block_bytes c from) ≤ block_room p = mul-le-mul few (omega (arith, size)) in
    let more = room_from c count plps (from + 1)
    (λ i lt. let e : from + suc i ≡ from + 1 + i = omega arith in at (suc i) (omega (arith, lt)) ∙ ap (plp_at c.plps) e)
    (λ i lt. let e : from + suc i ≡ from + 1 + i = omega arith in
    subst (λ (k : ℕ). count k ≤ (plp_at plps i).blocks) e (each (suc i) (omega (arith, lt)))) in
    let tail : List ℕ = range_with_len (from + 1) (length plps) in
    let front = sum_by-cons (λ (plp : ℕ). count plp * (4 + block_bytes c plp)) from tail in
    omega (arith, here, more, front, sum_by-cons block_room p plps)

-- and so have those of all
pub room_for_all : (c : Config) (count : ℕ → ℕ) → ((plp : ℕ) → plp < length c.plps
    → count plp ≤ (plp_at c.plps plp).blocks)
    → blocks_size c count ≤ sum_by block_room c.plps
room_for_all c count few =
    room_from c count c.plps 0 (λ i lt. let e : i ≡ 0 + i = omega arith in ap (plp_at c.plps) e)
    (λ i lt. let e : i ≡ 0 + i = omega arith in subst (λ (k : ℕ). count k ≤ (plp_at c.plps i).blocks) e (few i lt))

-- a frame has 38,000 blocks at most
pub few_blocks : FieldRange → FewBlocks
unfolding longest_rest
few_blocks field c shape is len passes =
    let blocks = few_for field c shape.counts c.plps 0 len (λ i lt. let e : i ≡ 0 + i = omega arith in
    ap (plp_at c.plps) e) passes.counts in
    let rest : 35 + div_ceil (post_len (length c.plps)) 8 + 4 * c.cells + sum_by block_room c.plps ≤ GREATEST_REST =
    is.tests RecordLength in
    omega (arith, blocks, rest)

-- the blocks of all PLPs
all_blocks : (c : Config) (blocks : ℕ → List (List Bool)) (plps : List ℕ)
    → length (flat_map (λ plp. map (sent_block c plp) (blocks plp)) plps) ≡ sum_by (λ plp. length (blocks plp)) plps
all_blocks c blocks [] = refl
all_blocks c blocks (plp ∷ plps) =
    length-append (map (sent_block c plp) (blocks plp)) (flat_map (λ plp. map (sent_block c plp) (blocks plp)) plps)
    ∙ ap₂ (λ (a b : ℕ). a + b) (length-map (blocks plp) (sent_block c plp)) (all_blocks c blocks plps)
    ∙ sym (sum_by-cons (λ plp. length (blocks plp)) plp plps)

-- ---- each block and each cell

pub all_map_twice : {X Y Z : Type 0} (P : Z → Type 0) (g : Y → Z) (f : X → Y) (xs : List X) → ((x : X) → P (g (f x)))
    → AllByRecursion P (map g (map f xs))
all_map_twice P g f [] each = tt
all_map_twice P g f (x ∷ xs) each = (each x, all_map_twice P g f xs each)

block_is_sent : BitCounts → FieldRange → (c : Config) (plp : ℕ) (bits : List Bool) → (plp_at c.plps plp).id < 2 ^ 8
    → length bits ≡ 8 * block_bytes c plp → IsSentBlock (sent_block c plp bits)
block_is_sent numbers law c plp bits id e = let f = law c plp in (id, omega (arith, block_len numbers c plp bits e, f))

plp_blocks_are_sent : BitCounts → FieldRange → (c : Config) (inputs : ℕ → List (List ℕ)) (n plp : ℕ)
    → (plp_at c.plps plp).id
    < 2 ^ 8 → AllByRecursion IsSentBlock (map (sent_block c plp) (plp_blocks c inputs n plp))
plp_blocks_are_sent numbers law c inputs n plp id =
    let at : ℕ → List ℕ = packet_at (inputs plp) in
    let begin : ℕ = sent_before (rates_of c plp (epoch_ticks c plp)) (plp_keeps c plp at) n in
    let end : ℕ = sent (rates_of c plp (epoch_ticks c plp)) (plp_keeps c plp at) n in
    let slots : ℕ = slots_by c plp (n * epoch_ticks c plp) in
    let block : ℕ → List Bool = λ from. block_bits c plp at slots from (min (from + field_bytes c plp) end) in
    all_map_twice IsSentBlock (sent_block c plp) block (block_places (field_bytes c plp) begin end)
    (λ from. block_is_sent numbers law c plp (block from) id
    (length-block numbers law c plp at slots from (min (from + field_bytes c plp) end) (omega arith)))

either_are_sent : (b : Bool) (c : Config) (plp : ℕ) (blocks : List (List Bool))
    → AllByRecursion IsSentBlock (map (sent_block c plp) blocks)
    → AllByRecursion IsSentBlock (map (sent_block c plp) (cond b blocks []))
either_are_sent true c plp blocks all = all
either_are_sent false c plp blocks all = tt

-- the blocks of the PLPs from one on
blocks_are_sent : BitCounts → FieldRange → (c : Config) (inputs : ℕ → List (List ℕ)) (n from count : ℕ) → HasByteIds c
    → from + count ≤ length c.plps
    → AllByRecursion IsSentBlock
    (flat_map (λ plp. map (sent_block c plp) (own_blocks c inputs n plp)) (range_with_len from count))
blocks_are_sent numbers law c inputs n from zero ids le = tt
blocks_are_sent numbers law c inputs n from (suc count) ids le =
    let m : ℕ = interleaving_frame c from n in
    all_append IsSentBlock (map (sent_block c from) (own_blocks c inputs n from))
    (flat_map (λ plp. map (sent_block c plp) (own_blocks c inputs n plp)) (range_with_len (from + 1) count))
    (either_are_sent (is_first c from n) c from (plp_blocks c inputs m from)
    (plp_blocks_are_sent numbers law c inputs m from (ids from (omega (arith, le)))))
    (blocks_are_sent numbers law c inputs n (from + 1) count ids (omega (arith, le)))

-- blocks that are sent fit their numbers
all_fit : (blocks : List Block) → AllByRecursion IsSentBlock blocks → AllByRecursion FitsBlock blocks
all_fit [] h = tt
all_fit (b ∷ blocks) h = ((omega (arith, h.0), omega (arith, h.0)), all_fit blocks h.1)

-- what stands at an address
cell_fits : (r : Option Cell) → ((found : Cell) → r ≡ Some found → (found.ordinal < 2 ^ 16) × (found.cell < 2 ^ 15))
    → FitsCell r
cell_fits None h = tt
cell_fits (Some found) h = let s = h found refl in (omega (arith, s), omega (arith, s))

-- ---- all of it

pub every_frame_fits : PreBitsLength → EmissionFits → FieldRange → CellsFit → EveryFrameFits
unfolding longest_rest
every_frame_fits bits emits field cells c n frame_idx post blocks shape is small short len passes few room sent =
    let moment = emits c n is.rules small in
    let most : c.cells ≤ 4194303 = is.tests CellAddresses in
    let plps : length c.plps ≤ 255 = (is.rules PlpCount).1 in
    let count : sum shape.counts ≤ 38000 = few_blocks field c shape is len passes in
    let addresses : length (frame_cells c shape frame_idx) ≡ c.cells = cells_count c shape frame_idx in
    let pre = length-l1_pre bits c in
    let rest : 35 + div_ceil (post_len (length c.plps)) 8 + 4 * c.cells + sum_by block_room c.plps ≤ GREATEST_REST =
    is.tests RecordLength in
    let bytes : bytes_for (length post) ≤ div_ceil (post_len (length c.plps)) 8 = omega (arith, short) in
    record {
      moment = (omega (arith, moment), omega (arith, moment));
      rest = record {
        pre = pre;
        post = omega (arith, short, plps);
        blocks = omega (arith, count, few);
        block = all_fit blocks sent;
        cells = omega (arith, addresses, most);
        cell = all_map FitsCell (get (cell_map c shape frame_idx)) (range_with_len 0 c.cells)
            (λ address. cell_fits (get (cell_map c shape frame_idx) address)
            (λ found e. cells c shape frame_idx address found is passes e));
      };
      small = omega (arith, room, bytes, addresses, rest);
    }

pub frame_fits : BitCounts → SlotLength → FieldRange → CountLaw → PostLength → ShapeHasCounts → ShapePasses
    → EveryFrameFits
    → FrameFits
frame_fits numbers slot field law post has passes every c inputs n is ids small =
    let all : List ℕ = told_counts c inputs n in
    let own : ℕ → ℕ = λ plp. length (own_blocks c inputs n plp) in
    let fit : CountsFit c all = counts_fit slot field law c inputs n is in
    let same : (frame_shape c inputs n).counts ≡ all = has c all in
    let blocks : length (sent_blocks c (own_blocks c inputs n)) ≡ sum_by own (places c) =
    all_blocks c (own_blocks c inputs n) (places c) in
    let fewer : sum_by own (places c) ≤ sum_by (told_count c inputs n) (places c) =
    sum_by-le-sum_by own (told_count c inputs n) (places c) (own_le c inputs n) in
    let bits = post c n (frame_shape c inputs n) in
    let size = length-blocks numbers field c inputs n in
    let room = room_for_all c own (λ plp lt.
    let most = count_le slot field law c inputs (interleaving_frame c plp n) plp is lt in
    omega (arith, own_le c inputs n plp, most)) in
    every c n (n % c.frames) (post_bits c n (frame_shape c inputs n)) (sent_blocks c (own_blocks c inputs n))
    (frame_shape c inputs n) is
    (omega (arith, small)) (omega (arith, bits))
    (ap (λ (l : List ℕ). length l) same ∙ fit.whole)
    (passes c all is fit)
    (omega (arith, blocks, fewer, ap (λ (l : List ℕ). sum l) same, sum-map (told_count c inputs n) (places c)))
    (omega (arith, size, room))
    (blocks_are_sent numbers field c inputs n 0 (length c.plps) ids (omega arith))

-- ---- the records of a run

pub muted_fits : EmissionFits → MutedFits
muted_fits emits c n is small = let moment = emits c n is.rules small in
    record { moment = (omega (arith, moment), omega (arith, moment)); rest = tt; small = lit≤ tt }

either_fits : (b : Bool) (v w : RecordView) → FitsRecord v → FitsRecord w → FitsRecord (cond b v w)
either_fits true v w h k = h
either_fits false v w h k = k

pub range_fits : EmissionFits → FrameFits → (c : Config) (inputs : ℕ → List (List ℕ)) (whole : ℕ
    → Bool) (first count : ℕ)
    → IsPlan c → HasByteIds c → first + count ≤ 2 ^ 31
    → AllByRecursion FitsRecord (map (record_of c inputs whole) (range_with_len first count))
range_fits emits fits c inputs whole first zero is ids small = tt
range_fits emits fits c inputs whole first (suc count) is ids small = (
  either_fits (whole first) (frame_of c inputs first) (Muted (emission c first))
      (fits c inputs first is ids (omega (arith, small))) (muted_fits emits c first is (omega (arith, small))),
  range_fits emits fits c inputs whole (first + 1) count is ids (omega (arith, small)),
)

numbers_fit : EmissionFits → FrameFits → (c : Config) (inputs : ℕ → List (List ℕ)) (whole : ℕ → Bool)
    (end : ℕ) (r : Option ℕ)
    → ((n : ℕ) → r ≡ Some n → n ≤ end) → IsPlan c → HasByteIds c → end ≤ 2 ^ 31
    → AllByRecursion FitsRecord (map (record_of c inputs whole) (numbers_from end r))
numbers_fit emits fits c inputs whole end None within is ids small = tt
numbers_fit emits fits c inputs whole end (Some n) within is ids small =
    range_fits emits fits c inputs whole n (end - n) is ids (omega (arith, within n refl, small))

pub records_fit : EmissionFits → FrameFits → RecordsFit
records_fit emits fits c inputs whole end is ids small =
    numbers_fit emits fits c inputs whole end (find (λ n. whole n && (n % c.frames == 0)) (range_with_len 0 end))
    (λ n e. let f = found (λ n. whole n && (n % c.frames == 0)) 0 end n e in omega (arith, f.below)) is ids small
