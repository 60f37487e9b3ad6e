-- The blocks of a frame have the sizes that are told of them.
use Rattle.std.proofs.Common.{◌≡◌, ℕ, zero, suc, ◌+◌, ◌*◌, ◌<◌, ◌≤◌, Bool, true, false, List, [], ◌∷◌, ◌++◌}
use Rattle.std.proofs.Common.{length, map, filter, replicate, refl, sym, subst, arith, eq-eqb}
use Rattle.std.specs.Prelude.{slice_index}
use Rattle.std.specs.Cmp.Lexicographic.{pointwise}
use Rattle.std.specs.List.{AllByRecursion, flat_map, range_with_len}
use Rattle.std.proofs.lemmas.Bool.{and_from, and_parts, both_ways, cond_both, eqb-true}
use Rattle.bb_frame.specs.Laws.{BitCounts}
use Rattle.plp_config.specs.Capacity.{block_bytes}
use Rattle.plp_config.specs.Plps.{plp_at}
use Rattle.plp_config.specs.declared.config.Config.{Config}
use Rattle.t2mi_packet.specs.declared.packet.Packet.{Packet}
use Rattle.record_laws.specs.Frames.{sent_block}
use Rattle.record_laws.proofs.FrameLemmas.{block_len}
use Rattle.frame_groups.specs.Carried.{blocks_of, has_length, right_blocks}
use Rattle.frame_groups.specs.Readable.{BlockSize, has_size}

pointwise_append : {A B : Type 0} (test : A → B → Bool) (xs ys : List A) (us vs : List B) → pointwise test xs us ≡ true
    → pointwise test ys vs ≡ true → pointwise test (xs ++ ys) (us ++ vs) ≡ true
pointwise_append test [] ys [] vs e f = f
pointwise_append test [] ys (u ∷ us) vs e f = absurd (both_ways false refl e)
pointwise_append test (x ∷ xs) ys [] vs e f = absurd (both_ways false refl e)
pointwise_append test (x ∷ xs) ys (u ∷ us) vs e f =
    let p = and_parts _ _ e in
    and_from _ _ p.0 (pointwise_append test xs ys us vs p.1 f)

abbrev pub size_of : Config → ℕ → BlockSize
size_of c plp = record { plp_id = (plp_at c.plps plp).id; len = block_bytes c plp }

-- blocks of a PLP have as many bits as it says
abbrev pub AreLong : Config → ℕ → List (List Bool) → Type 0
AreLong c plp blocks = AllByRecursion (λ b. length b ≡ 8 * block_bytes c plp) blocks

-- a block of Kbch bits is sent as so many bytes
sent_size : BitCounts → (c : Config) (plp : ℕ) (bits : List Bool) → length bits ≡ 8 * block_bytes c plp
    → has_size (sent_block c plp bits) (size_of c plp) ≡ true
sent_size counts c plp bits e = grind (arith, and_from, eq-eqb, block_len)

plp_sizes : BitCounts → (c : Config) (plp : ℕ) (blocks : List (List Bool)) → AreLong c plp blocks
    → pointwise has_size (map (sent_block c plp) blocks) (replicate (length blocks) (size_of c plp)) ≡ true
plp_sizes counts c plp [] h = refl
plp_sizes counts c plp (b ∷ blocks) h =
    and_from _ _ (sent_size counts c plp b h.0) (plp_sizes counts c plp blocks h.1)

-- the blocks of so many PLPs from one on
pub all_sizes : BitCounts → (c : Config) (told : List ℕ) (blocks : ℕ → List (List Bool))
    → ((plp : ℕ) → AreLong c plp (blocks plp))
    → (k a : ℕ) → ((plp : ℕ) → a ≤ plp → plp < a + k → slice_index told plp ≡ length (blocks plp))
    → pointwise has_size (flat_map (λ plp. map (sent_block c plp) (blocks plp)) (range_with_len a k))
    (flat_map (λ plp. replicate (slice_index told plp) (size_of c plp)) (range_with_len a k)) ≡ true
all_sizes counts c told blocks long zero a h = refl
all_sizes counts c told blocks long (suc k) a h =
    pointwise_append has_size (map (sent_block c a) (blocks a))
    (flat_map (λ plp. map (sent_block c plp) (blocks plp)) (range_with_len (a + 1) k))
    (replicate (slice_index told a) (size_of c a))
    (flat_map (λ plp. replicate (slice_index told plp) (size_of c plp)) (range_with_len (a + 1) k))
    (subst (λ (n : ℕ). pointwise has_size (map (sent_block c a) (blocks a)) (replicate n (size_of c a)) ≡ true)
    (sym (h a (omega arith) (omega arith))) (plp_sizes counts c a (blocks a) (long a)))
    (all_sizes counts c told blocks long k (a + 1) (λ plp from below. h plp (omega (arith, from))
    (omega (arith, below))))

-- the blocks that have the length of their PLP
filter_long : (c : Config) (plp : ℕ) (blocks : List (List Bool)) → AreLong c plp (filter (has_length c plp) blocks)
filter_long c plp [] = tt
filter_long c plp (b ∷ blocks) =
    cond_both {A = List (List Bool)} (has_length c plp b) (b ∷ filter (has_length c plp) blocks)
    (filter (has_length c plp) blocks)
    (AreLong c plp)
    (λ e. (eqb-true _ _ e, filter_long c plp blocks)) (λ e. filter_long c plp blocks)

pub right_long : (c : Config) (plp : ℕ) (packets : List Packet) → AreLong c plp (right_blocks c plp packets)
right_long c plp packets = filter_long c plp (blocks_of c plp packets)
