-- The fields that bytes tell, found place by place. Law `fields_told`: they are those of the packet that the bytes
-- spell.
use Rattle.std.specs.Prelude.{ℕ, ◌==◌, ◌&&◌, ◌||◌, Bool, List, slice_index, drop, nat_le, Option, Some, None}
use Rattle.std.specs.Prelude.{if◌then◌else◌}
use Rattle.terms.specs.Bits.{bits_of, part}
use Rattle.ts_packet.specs.declared.sizes.TheConstants.{SYNC}
use Rattle.ts_packet.specs.TransportPacket.{Fields, control_at, length_at}
use Rattle.ts_packet.specs.Reading.{fields_of, place_for}

-- The adaptation field fits, by adaptation_field_control and the length byte.
abbrev pub fits_adaptation : ℕ → ℕ → Bool
fits_adaptation control len = (control == 1) || ((control == 2) && (len == 183)) || ((control == 3) && nat_le len 182)

-- The bytes begin with the sync byte, and their adaptation field fits.
abbrev pub is_packet : List ℕ → Bool
is_packet bytes = (slice_index bytes 0 == SYNC) && fits_adaptation (control_at bytes) (length_at bytes)

-- the fields of the packet that the bytes are, if they are one
unfoldable pub fields_in : List ℕ → Option Fields
fields_in bytes =
    if is_packet bytes
    then Some (fields_of (part (bits_of bytes) 0 32) (drop (place_for (control_at bytes) (length_at bytes)) bytes))
    else None
