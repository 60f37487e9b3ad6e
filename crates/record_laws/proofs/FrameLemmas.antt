-- The record of a frame has as many bytes as its sections.
use Rattle.std.proofs.Common.{◌≡◌, ℕ, ◌+◌, ◌*◌, ◌%◌, min, Bool, true, false, cond, List, [], ◌∷◌, length, refl, sym, ap}
use Rattle.std.proofs.Common.{ap₂}
use Rattle.std.proofs.Common.{◌∙◌, arith}
use Rattle.std.specs.Prelude.{map, sum_by}
use Rattle.std.specs.List.{flat_map}
use Rattle.std.proofs.lemmas.List.FromFn.{length-map-range_with_len}
use Rattle.std.proofs.lemmas.List.Sums.{sum_by-cons, sum_by-append}
use Rattle.terms.specs.Bits.{bytes_of, bytes_for}
use Rattle.terms.proofs.BitLemmas.{length-bytes_of}
use Rattle.bb_frame.specs.Scrambled.{scrambled}
use Rattle.plp_config.specs.Capacity.{block_bytes, field_bytes}
use Rattle.plp_config.specs.Laws.{FieldRange}
use Rattle.plp_config.specs.declared.config.Config.{Config}
use Rattle.null_delete.specs.Deletion.{packet_at}
use Rattle.mode_adapt.specs.Blocks.{block_bits, block_places, plp_keeps, rates_of, plp_blocks, own_blocks}
use Rattle.mode_adapt.specs.Queue.{sent, sent_before}
use Rattle.mode_adapt.proofs.FitsLemmas.{length-block}
use Rattle.plp_config.specs.SlotTime.{slots_by, epoch_ticks}
use Rattle.std.specs.FinMap.{get}
use Rattle.plp_config.specs.InterleavingFrames.{interleaving_frame, is_first}
use Rattle.plp_config.specs.Places.{places}
use Rattle.cell_map.specs.CellMap.{cell_map}
use Rattle.scheduler.specs.Shape.{FrameShape}
use Rattle.l1_signal.specs.Laws.{PostLength}
use Rattle.l1_signal.specs.Lengths.{post_len}
use Rattle.site_frame.specs.Whole.{block_size}
use Rattle.site_frame.specs.Record.{head_len, pre_len}
use Rattle.record_laws.specs.Frames.{sent_block, sent_blocks, frame_cells, frame_shape}
use Rattle.record_laws.specs.Laws.{blocks_size, FrameLength}
use Rattle.bb_frame.specs.Laws.{BitCounts}

-- blocks of a PLP have as many bytes as it says
pub block_len : BitCounts → (c : Config) (plp : ℕ) (bits : List Bool) → length bits ≡ 8 * block_bytes c plp
    → block_size (sent_block c plp bits) ≡ 4 + block_bytes c plp
block_len counts c plp bits e =
    let size : length (bytes_of (scrambled bits)) ≡ bytes_for (8 * block_bytes c plp) = length-bytes_of (scrambled bits)
    ∙ ap bytes_for (counts.scrambled bits ∙ e) in
    omega (arith, size)

-- blocks of one length
alike : BitCounts → (c : Config) (plp : ℕ) (f : ℕ → List Bool) → ((x : ℕ) → length (f x) ≡ 8 * block_bytes c plp)
    → (xs : List ℕ)
    → sum_by block_size (map (sent_block c plp) (map f xs)) ≡ length (map f xs) * (4 + block_bytes c plp)
alike counts c plp f each [] = omega arith
alike counts c plp f each (x ∷ xs) =
    sum_by-cons block_size (sent_block c plp (f x)) (map (sent_block c plp) (map f xs))
    ∙ ap₂ (λ (a b : ℕ). a + b) (block_len counts c plp (f x) (each x)) (alike counts c plp f each xs) ∙ omega arith

-- those of an interleaving frame
plp_len : BitCounts → FieldRange → (c : Config) (inputs : ℕ → List (List ℕ)) (n plp : ℕ)
    → sum_by block_size (map (sent_block c plp) (plp_blocks c inputs n plp)) ≡ length (plp_blocks c inputs n plp)
    * (4 + block_bytes c plp)
plp_len counts law c inputs n plp =
    let at : ℕ → List ℕ = packet_at (inputs plp) in
    let ticks : ℕ = epoch_ticks c plp in
    let end : ℕ = sent (rates_of c plp ticks) (plp_keeps c plp at) n in
    let begin : ℕ = sent_before (rates_of c plp ticks) (plp_keeps c plp at) n in
    alike counts c plp (λ from. block_bits c plp at (slots_by c plp (n * ticks)) from
    (min (from + field_bytes c plp) end))
    (λ x. length-block counts law c plp at (slots_by c plp (n * ticks)) x (min (x + field_bytes c plp) end)
    (omega arith))
    (block_places (field_bytes c plp) begin end)

-- these or none
either_len : (b : Bool) (c : Config) (plp : ℕ) (blocks : List (List Bool))
    → sum_by block_size (map (sent_block c plp) blocks) ≡ length blocks * (4 + block_bytes c plp)
    → sum_by block_size (map (sent_block c plp) (cond b blocks [])) ≡ length (cond b blocks []) *
    (4 + block_bytes c plp)
either_len true c plp blocks e = e
either_len false c plp blocks e = omega arith

own_len : BitCounts → FieldRange → (c : Config) (inputs : ℕ → List (List ℕ)) (n plp : ℕ)
    → sum_by block_size (map (sent_block c plp) (own_blocks c inputs n plp)) ≡ length (own_blocks c inputs n plp)
    * (4 + block_bytes c plp)
own_len counts law c inputs n plp =
    let m : ℕ = interleaving_frame c plp n in
    either_len (is_first c plp n) c plp (plp_blocks c inputs m plp) (plp_len counts law c inputs m plp)

-- all blocks of a frame
all_len : (c : Config) (blocks : ℕ → List (List Bool))
    → ((plp : ℕ) → sum_by block_size (map (sent_block c plp) (blocks plp)) ≡ length (blocks plp) *
    (4 + block_bytes c plp))
    → (plps : List ℕ)
    → sum_by block_size (flat_map (λ plp. map (sent_block c plp) (blocks plp)) plps)
    ≡ sum_by (λ plp. length (blocks plp) * (4 + block_bytes c plp)) plps
all_len c blocks each [] = refl
all_len c blocks each (plp ∷ plps) =
    sum_by-append block_size (map (sent_block c plp) (blocks plp))
    (flat_map (λ plp. map (sent_block c plp) (blocks plp)) plps)
    ∙ ap₂ (λ (a b : ℕ). a + b) (each plp) (all_len c blocks each plps)
    ∙ sym (sum_by-cons (λ plp. length (blocks plp) * (4 + block_bytes c plp)) plp plps)

-- what stands at each address
pub cells_count : (c : Config) (shape : FrameShape) (frame_idx : ℕ) → length (frame_cells c shape frame_idx) ≡ c.cells
cells_count c shape frame_idx = length-map-range_with_len (get (cell_map c shape frame_idx)) 0 c.cells

-- how many bytes the blocks of a frame have
pub length-blocks : BitCounts → FieldRange → (c : Config) (inputs : ℕ → List (List ℕ)) (n : ℕ)
    → sum_by block_size (sent_blocks c (own_blocks c inputs n)) ≡ blocks_size c
    (λ plp. length (own_blocks c inputs n plp))
length-blocks counts law c inputs n = all_len c (own_blocks c inputs n) (own_len counts law c inputs n) (places c)

pub frame_length : BitCounts → FieldRange → PostLength → FrameLength
frame_length counts law post c inputs n =
    let size = length-blocks counts law c inputs n in
    let bits = post c n (frame_shape c inputs n) in
    let cells = cells_count c (frame_shape c inputs n) (n % c.frames) in
    ap₂ (λ (b x : ℕ). head_len + pre_len + (4 + b) + (2 + x)
    + (4 + 4 * length (frame_cells c (frame_shape c inputs n) (n % c.frames))))
    (ap bytes_for bits) size
    ∙ ap (λ (k : ℕ). head_len + pre_len + (4 + bytes_for (post_len (length c.plps)))
    + (2 + blocks_size c (λ plp. length (own_blocks c inputs n plp))) + (4 + 4 * k)) cells
    ∙ omega arith
