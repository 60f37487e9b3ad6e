-- What the reader takes from its bytes, place by place. `fields_in` (FieldsIn) rests on `fields_of` and `place_for`; no
-- public clause cites `IsRead`.
use Rattle.std.specs.Prelude.{◌≡◌, ℕ, ◌+◌, ◌==◌, List, Bool, drop, if◌then◌else◌}
use Rattle.terms.specs.Bits.{bits_of, part, number_at}
use Rattle.ts_packet.specs.TransportPacket.{Fields, HasSync, control_at, length_at, IsBadAdaptation}

-- the fields that stand at their places in the bits of a header, and a payload
abbrev pub fields_of : List Bool → List ℕ → Fields
fields_of header payload = record {
  error = number_at header 8 1 == 1;
  starts = number_at header 9 1 == 1;
  pid = number_at header 11 13;
  scrambling = number_at header 24 2;
  counter = number_at header 28 4;
  payload = payload;
}

-- the place of the payload, by adaptation_field_control and the length byte
abbrev pub place_for : ℕ → ℕ → ℕ
place_for control len = if control == 1 then 4 else 5 + len

-- The bytes begin with the sync byte, their adaptation field fits, and these are their fields.
pub record IsRead (bytes : List ℕ) (f : Fields) : Type 0 where
  pub sync : HasSync bytes
  pub adaptation : ¬ (IsBadAdaptation (control_at bytes) (length_at bytes))
  pub fields : f ≡ fields_of (part (bits_of bytes) 0 32) (drop (place_for (control_at bytes) (length_at bytes)) bytes)
