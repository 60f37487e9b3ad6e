-- How many bytes a record has at most.
use Rattle.std.proofs.Common.{◌≡◌, ℕ, ◌+◌, ◌*◌, ◌≤◌, List, [], ◌∷◌, ◌++◌, length, arith, length-append}
use Rattle.std.specs.List.{flat_map}
use Rattle.byteorder.specs.Endian.{big_bytes}
use Rattle.linked_pool.specs.Pool.{chunk_len, chunks_for, chunks_of, used_chunks}
use Rattle.linked_pool.proofs.BlockLemmas.{chunks_of-cons, used_chunks-cons}
use Rattle.plp_config.specs.declared.config.Config.{Config}
use Rattle.scheduler.specs.Shape.{FrameShape}
use Rattle.open_group.specs.RecordBytes.{piece_len, sent_bytes, lists_bytes}
use Rattle.open_group.specs.Steps.{step_bytes}
use Rattle.open_group.specs.Writes.{most_record}
use Rattle.open_group.specs.declared.step.Step.TheVariants.{Blocks}
use Rattle.site_frame.specs.Words.{words}
use Rattle.open_group.proofs.ScrambleLemmas.{length-scrambled_bytes}
use Rattle.site_frame.proofs.WordLemmas.{length-words}

-- a block with its head has no more bytes than its chunks with a head each
block_fits : (len : ℕ) → 4 + len ≤ (4 + chunk_len) * chunks_for len
block_fits len = omega arith

length-sent_bytes : (c : Config) (plp : ℕ) (block : List ℕ) → length (sent_bytes c plp block) ≡ 4 + length block
length-sent_bytes c plp block = let size = length-scrambled_bytes block in omega (arith, size)

list_fits : (c : Config) (plp : ℕ) (blocks : List (List ℕ))
    → length (flat_map (sent_bytes c plp) blocks) ≤ (4 + chunk_len)
    * chunks_of blocks
list_fits c plp [] = omega arith
list_fits c plp (b ∷ blocks) =
    let size = length-append (sent_bytes c plp b) (flat_map (sent_bytes c plp) blocks) in
    let one = length-sent_bytes c plp b in
    let chunks = chunks_of-cons b blocks in
    let first = block_fits (length b) in
    let others = list_fits c plp blocks in
    omega (arith, size, one, chunks, first, others)

lists_fit : (c : Config) (plp : ℕ) (lists : List (List (List ℕ))) → length (lists_bytes c plp lists) ≤ (4 + chunk_len)
    * used_chunks lists
lists_fit c plp [] = omega arith
lists_fit c plp (blocks ∷ lists) =
    let size = length-append (flat_map (sent_bytes c plp) blocks) (lists_bytes c (plp + 1) lists) in
    let chunks = used_chunks-cons blocks lists in
    let first = list_fits c plp blocks in
    let others = lists_fit c (plp + 1) lists in
    omega (arith, size, chunks, first, others)

-- what stands behind the front of a frame's record
behind_front : (c : Config) (shape : FrameShape) (frame_idx : ℕ) (lists : List (List (List ℕ)))
    → length (step_bytes c shape frame_idx lists (Blocks 0)) ≤ (4 + chunk_len) * used_chunks lists + 4 + 4 * c.cells
behind_front c shape frame_idx lists =
    let size = length-append (lists_bytes c 0 lists) (big_bytes 4 c.cells ++ words c shape frame_idx 0 c.cells) in
    let cells = length-append (big_bytes 4 c.cells) (words c shape frame_idx 0 c.cells) in
    let blocks = lists_fit c 0 lists in
    let each = length-words c shape frame_idx c.cells 0 in
    omega (arith, size, cells, blocks, each)

-- a frame's record whose front fits a piece
pub record_fits : (c : Config) (shape : FrameShape) (frame_idx : ℕ) (lists : List (List (List ℕ))) (piece : List ℕ)
    → length piece ≤ piece_len
    → length (piece ++ step_bytes c shape frame_idx lists (Blocks 0)) ≤ most_record c (used_chunks lists)
record_fits c shape frame_idx lists piece short =
    let size = length-append piece (step_bytes c shape frame_idx lists (Blocks 0)) in
    let behind = behind_front c shape frame_idx lists in
    omega (arith, size, behind, short)

-- a muted record
pub muted_fits : (piece : List ℕ) → length piece ≤ piece_len → length (piece ++ []) ≤ piece_len
muted_fits piece short = let size = length-append piece [] in omega (arith, size, short)
