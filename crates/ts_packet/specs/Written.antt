-- What `write_payload` writes (ISO/IEC 13818-1, clauses 2.4.3 and 2.4.4).
use Rattle.std.specs.Prelude.{ℕ, zero, suc, ◌-◌, false, List, [], ◌∷◌, length, replicate, Option, Some, None, is_some}
use Rattle.ts_packet.specs.declared.sizes.TheConstants.{PAYLOAD}
use Rattle.ts_packet.specs.TransportPacket.{Fields, packet_bytes}

-- the payload with its pointer_field in front, if there is one (clause 2.4.4)
abbrev pub area_of : Option ℕ → List ℕ → List ℕ
area_of None payload = payload
area_of (Some pointer) payload = pointer ∷ payload

-- what fills so many bytes behind the header: an adaptation field whose flags are all 0, and stuffing bytes (clause
-- 2.4.3.5)
abbrev pub stuffing : ℕ → Option (List ℕ)
stuffing zero = None
stuffing (suc zero) = Some []
stuffing (suc (suc n)) = Some (0 ∷ replicate n 0xFF)

-- the fields of a written packet
abbrev pub written_fields : ℕ → ℕ → Option ℕ → List ℕ → Fields
written_fields pid counter pointer payload = record {
  error = false;
  starts = is_some pointer;
  pid = pid;
  scrambling = 0;
  counter = counter;
  payload = area_of pointer payload;
}

-- its bytes
unfoldable pub written_bytes : ℕ → ℕ → Option ℕ → List ℕ → List ℕ
written_bytes pid counter pointer payload =
    packet_bytes (written_fields pid counter pointer payload) false
    (stuffing (PAYLOAD - length (area_of pointer payload)))
