-- Transport packets (ISO/IEC 13818-1, clause 2.4.3): how a packet is spelled, and why 188 bytes are none.
use Rattle.std.specs.Prelude.{◌≡◌, ◌≢◌, ◌⊎◌, ℕ, ◌<◌, ◌^◌, Bool, List, [], ◌∷◌, ◌++◌, length, slice_index, Option, Some}
use Rattle.std.specs.Prelude.{None}
use Rattle.ts_packet.specs.declared.sizes.TheConstants.{SIZE, SYNC}
use Rattle.terms.specs.Bits.{field, bits_of, bytes_of, number_at}
use Rattle.ts_packet.specs.declared.fault.TsFault.{TsFault}
use Rattle.ts_packet.specs.declared.fault.TsFault.TheVariants.{NoSync, BadAdaptation}

-- what a packet tells: transport_error_indicator, payload_unit_start_indicator, PID, transport_scrambling_control,
-- continuity_counter, and the bytes of its payload
pub record Fields : Type 0 where
  pub error : Bool
  pub starts : Bool
  pub pid : ℕ
  pub scrambling : ℕ
  pub counter : ℕ
  pub payload : List ℕ

-- a field of one bit
abbrev pub flag : Bool → List Bool
flag b = b ∷ []

-- the header, field by field: sync byte, transport_error_indicator, payload_unit_start_indicator, transport_priority,
-- PID, transport_scrambling_control, adaptation_field_control, continuity_counter
abbrev pub header_bits : Fields → Bool → ℕ → List Bool
header_bits f priority control =
    field 8 SYNC ++ flag f.error ++ flag f.starts ++ flag priority ++ field 13 f.pid ++ field 2 f.scrambling
    ++ field 2 control
    ++ field 4 f.counter

-- adaptation_field_control (table 2-5): 1 if a payload alone follows, 2 if an adaptation field alone, 3 if both
abbrev pub control_of : Option (List ℕ) → List ℕ → ℕ
control_of None payload = 1
control_of (Some adaptation) [] = 2
control_of (Some adaptation) (byte ∷ payload) = 3

-- an adaptation field (clause 2.4.3.4): its length byte, which does not count itself, and its other bytes
abbrev pub adaptation_bytes : Option (List ℕ) → List ℕ
adaptation_bytes None = []
adaptation_bytes (Some adaptation) = length adaptation ∷ adaptation

-- the whole packet: header, adaptation field and payload
unfoldable pub packet_bytes : Fields → Bool → Option (List ℕ) → List ℕ
packet_bytes f priority adaptation = bytes_of (header_bits f priority (control_of adaptation f.payload))
    ++ adaptation_bytes adaptation ++ f.payload

-- Each field fits its width.
pub record Fits (f : Fields) : Type 0 where
  pub pid : f.pid < 2 ^ 13
  pub scrambling : f.scrambling < 2 ^ 2
  pub counter : f.counter < 2 ^ 4

-- The 188 bytes are the packet, whatever its transport_priority and the bytes of its adaptation field.
pub record Spells (f : Fields) (bytes : List ℕ) : Type 0 where
  pub fits : Fits f
  pub priority : Bool
  pub adaptation : Option (List ℕ)
  pub whole : length bytes ≡ SIZE
  pub spelled : bytes ≡ packet_bytes f priority adaptation

-- The bytes begin with the sync byte.
abbrev pub HasSync : List ℕ → Type 0
HasSync bytes = slice_index bytes 0 ≡ SYNC

-- adaptation_field_control
abbrev pub control_at : List ℕ → ℕ
control_at bytes = number_at (bits_of bytes) 26 2

-- the length byte of an adaptation field
abbrev pub length_at : List ℕ → ℕ
length_at bytes = slice_index bytes 4

-- adaptation_field_control is the reserved 0, or an adaptation field alone does not fill the packet, or one before a
-- payload leaves it no byte.
abbrev pub IsBadAdaptation : ℕ → ℕ → Type 0
IsBadAdaptation control len = (control ≡ 0) ⊎ (((control ≡ 2) × (len ≢ 183)) ⊎ ((control ≡ 3) × (182 < len)))

-- the first refusal of bytes that are no packet
abbrev pub Refuses : List ℕ → TsFault → Type 0
Refuses bytes NoSync = ¬ (HasSync bytes)
Refuses bytes BadAdaptation = HasSync bytes × IsBadAdaptation (control_at bytes) (length_at bytes)
