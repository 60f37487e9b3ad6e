-- Files of transport packets that stand back to back (ISO/IEC 13818-1, clause 2.4.3).
use Rattle.std.specs.Prelude.{◌≡◌, ◌≢◌, ℕ, zero, suc, ◌+◌, ◌*◌, ◌<◌, ◌==◌, ◌&&◌, nat_le, Bool, List, [], ◌∷◌, length}
use Rattle.std.specs.Prelude.{take, drop, slice_index, flat_map, if◌then◌else◌}
use Rattle.std.specs.List.{AllByRecursion}
use Rattle.ts_packet.specs.declared.sizes.TheConstants.{SIZE, SYNC}

-- A packet stands at the front: there are enough bytes, and the first is the sync byte.
abbrev pub begins_with_packet : List ℕ → Bool
begins_with_packet bytes = nat_le SIZE (length bytes) && (slice_index bytes 0 == SYNC)

-- the packets at the front, at most so many, up to where none stands
unfoldable pub packets_up_to : ℕ → List ℕ → List (List ℕ)
packets_up_to zero bytes = []
packets_up_to (suc n) bytes = if begins_with_packet bytes then take SIZE bytes ∷ packets_up_to n (drop SIZE bytes)
    else []

-- the packets of a file, up to the first bad one
abbrev pub packets_in : List ℕ → List (List ℕ)
packets_in file = packets_up_to (length file) file

-- what stands behind them: nothing, or a bad packet and all that follows
abbrev pub left_in : List ℕ → List ℕ
left_in file = drop (SIZE * length (packets_in file)) file

-- A packet is bad: it does not begin with the sync byte, or the file ends inside it.
abbrev pub HasBad : List ℕ → Type 0
HasBad file = left_in file ≢ []

-- packets, joined
abbrev pub joined : List (List ℕ) → List ℕ
joined packets = flat_map (λ packet. packet) packets

-- Each is a packet of a file.
abbrev pub ArePackets : List (List ℕ) → Type 0
ArePackets packets = AllByRecursion (λ p. (length p ≡ SIZE) × (slice_index p 0 ≡ SYNC)) packets

-- Behind the packets of a file, up to its first bad one, fewer bytes were read than a packet has: so no bad packet was
-- read whole.
abbrev pub ReadsNoBad : List ℕ → ℕ → Type 0
ReadsNoBad file place = place < SIZE * (length (packets_in file) + 1)
