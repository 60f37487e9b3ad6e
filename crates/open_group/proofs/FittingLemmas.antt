-- Sinks with room.
use Rattle.std.proofs.Common.{◌≡◌, ℕ, ◌+◌, ◌-◌, ◌≤◌, Bool, true, false, List, [], length, Some, ap, ◌∙◌, arith}
use Rattle.std.proofs.Common.{length-append}
use Rattle.terms.specs.Bits.{field}
use Rattle.terms.proofs.BitLemmas.{length-field}
use Rattle.bit_slice.specs.Crc.{crc32_of}
use Rattle.l1_signal.specs.Laws.{crc_behind}
use Rattle.bit_slice.specs.Sink.{State, wrapped}
use Rattle.open_group.specs.Fitting.{HasRoom}

-- a sink of fixed size in which nothing stands
pub fresh_room : (size : ℕ) (bits : List Bool) (s : State) (count : ℕ) → bits ≡ []
    → s ≡ wrapped (record { written = bits; room = Some (size - length bits); grows = false; below = [] })
    → count ≤ size
    → HasRoom s count
fresh_room size bits s count empty is most =
    let none : size - 0 ≡ size = omega arith in
    record {
      room = size;
      has = ap (λ (s : State). s.room) is ∙ ap (λ (l : List Bool). Some (size - length l)) empty ∙ ap Some none;
      most = most;
    }

-- a CRC_32 has 32 bits
pub length-crc_behind : (front : List Bool) → length (crc_behind true front) ≡ length front + 32
length-crc_behind front = length-append front (field 32 (crc32_of front))
    ∙ ap (λ (n : ℕ). length front + n) (length-field 32 (crc32_of front))
