-- Null packets (ISO/IEC 13818-1, table 2-3).
use Rattle.std.specs.Prelude.{ℕ, ◌==◌, Bool, List, ◌∷◌, replicate}
use Rattle.ts_packet.specs.declared.sizes.TheConstants.{PAYLOAD, SYNC}
use Rattle.terms.specs.Bits.{bits_of, number_at}

-- The PID is that of null packets.
unfoldable pub is_null : List ℕ → Bool
is_null packet = number_at (bits_of packet) 11 13 == 0x1FFF

-- the canonical null packet: no adaptation field, a payload of bytes 0xFF, and a continuity_counter of 0
abbrev pub null_packet : List ℕ
null_packet = SYNC ∷ 0x1F ∷ 0xFF ∷ 0x10 ∷ replicate PAYLOAD 0xFF
