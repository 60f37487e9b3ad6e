-- The blocks of a frame: how many bits each has, and how many there are.
use Rattle.std.proofs.Common.{◌≡◌, ℕ, ◌+◌, ◌*◌, ◌<◌, min, Bool, true, false, cond, List, [], length, arith}
use Rattle.std.specs.Prelude.{slice_index}
use Rattle.std.specs.List.{AllByRecursion}
use Rattle.std.proofs.lemmas.List.FromFn.{get_or-map-range_with_len}
use Rattle.bb_frame.specs.Laws.{BitCounts}
use Rattle.plp_config.specs.Capacity.{block_bytes, field_bytes}
use Rattle.plp_config.specs.Laws.{FieldRange}
use Rattle.plp_config.specs.SlotTime.{slots_by, epoch_ticks}
use Rattle.plp_config.specs.declared.config.Config.{Config}
use Rattle.null_delete.specs.Deletion.{packet_at}
use Rattle.mode_adapt.specs.Blocks.{block_places, plp_keeps, rates_of, plp_blocks, own_blocks, told_count, told_counts}
use Rattle.mode_adapt.specs.Blocks.{block_bits}
use Rattle.mode_adapt.specs.Queue.{sent, sent_before}
use Rattle.terms.proofs.AllLemmas.{all_map}
use Rattle.mode_adapt.proofs.FitsLemmas.{length-block}

-- each block of an interleaving frame has as many bits as the PLP says
pub blocks_long : BitCounts → FieldRange → (c : Config) (inputs : ℕ → List (List ℕ)) (n plp : ℕ)
    → AllByRecursion (λ b. length b ≡ 8 * block_bytes c plp) (plp_blocks c inputs n plp)
blocks_long counts law c inputs n plp =
    let at : ℕ → List ℕ = packet_at (inputs plp) in
    let end : ℕ = sent (rates_of c plp (epoch_ticks c plp)) (plp_keeps c plp at) n in
    let slots : ℕ = slots_by c plp (n * epoch_ticks c plp) in
    all_map (λ b. length b ≡ 8 * block_bytes c plp) (λ from. block_bits c plp at slots from
    (min (from + field_bytes c plp) end))
    (block_places (field_bytes c plp) (sent_before (rates_of c plp (epoch_ticks c plp)) (plp_keeps c plp at) n) end)
    (λ from. length-block counts law c plp at slots from (min (from + field_bytes c plp) end) (omega arith))

either_long : (b : Bool) (size : ℕ) (blocks : List (List Bool)) → AllByRecursion (λ w. length w ≡ size) blocks
    → AllByRecursion (λ w. length w ≡ size) (cond b blocks [])
either_long true size blocks h = h
either_long false size blocks h = tt

-- so has each that is sent in a frame
pub own_long : BitCounts → FieldRange → (c : Config) (inputs : ℕ → List (List ℕ)) (n plp : ℕ)
    → AllByRecursion (λ b. length b ≡ 8 * block_bytes c plp) (own_blocks c inputs n plp)
own_long counts law c inputs n plp = search (arith, either_long, blocks_long)

-- how many blocks a frame tells of a PLP, among the numbers of all
pub count_at : (c : Config) (inputs : ℕ → List (List ℕ)) (n plp : ℕ) → plp < length c.plps
    → slice_index (told_counts c inputs n) plp
    ≡ told_count c inputs n plp
count_at c inputs n plp inside = get_or-map-range_with_len (told_count c inputs n) 0 (length c.plps) plp plp 0 inside
    (omega arith)
