-- Laws of transport packets.
use Rattle.std.specs.Prelude.{◌≡◌, ◌⊎◌, ◌==◌, ◌+◌, ◌<◌, ◌≤◌, ◌^◌, ℕ, List, true, length, drop, slice_index, replicate}
use Rattle.std.specs.Prelude.{Option}
use Rattle.std.specs.Prelude.{Some, None}
use Rattle.ts_packet.specs.declared.sizes.TheConstants.{PAYLOAD, SIZE}
use Rattle.ts_packet.specs.declared.fault.TsFault.{TsFault}
use Rattle.ts_packet.specs.TransportPacket.{Fields, Spells, Refuses}
use Rattle.ts_packet.specs.FieldsIn.{fields_in}
use Rattle.ts_packet.specs.Null.{is_null, null_packet}
use Rattle.ts_packet.specs.Written.{area_of, written_fields, written_bytes}

-- A string spells one packet at most.
abbrev pub OnePacket : Type 0
OnePacket = (f g : Fields) (bytes : List ℕ) → Spells f bytes → Spells g bytes → f ≡ g

-- What spells a packet is not refused.
abbrev pub NoRefusal : Type 0
NoRefusal = (f : Fields) (bytes : List ℕ) (fault : TsFault) → Spells f bytes → ¬ (Refuses bytes fault)

-- Each 188 bytes spell a packet or are refused.
abbrev pub SpelledOrRefused : Type 0
SpelledOrRefused = (bytes : List ℕ) → length bytes ≡ SIZE → ((k : ℕ) → slice_index bytes k < 256)
    → ((f : Fields) × Spells f bytes) ⊎ ((fault : TsFault) × Refuses bytes fault)

-- A string has one refusal at most.
abbrev pub OneRefusal : Type 0
OneRefusal = (bytes : List ℕ) (fault other : TsFault) → Refuses bytes fault → Refuses bytes other → fault ≡ other

-- What was written spells what was to be written.
abbrev pub WrittenSpells : Type 0
WrittenSpells = (pid counter : ℕ) (pointer : Option ℕ) (payload : List ℕ) → pid < 2 ^ 13 → counter < 2 ^ 4
    → 1 ≤ length payload
    → length (area_of pointer payload) ≤ PAYLOAD
    → Spells (written_fields pid counter pointer payload) (written_bytes pid counter pointer payload)

-- A packet is null if its PID is that of null packets.
abbrev pub NullByPid : Type 0
NullByPid = (f : Fields) (bytes : List ℕ) → Spells f bytes → is_null bytes ≡ (f.pid == 0x1FFF)

-- The canonical null packet is null, and is spelled with a payload of 184 bytes 0xFF.
abbrev pub CanonicalNull : Type 0
CanonicalNull = (is_null null_packet ≡ true) × Spells (written_fields 0x1FFF 0 None (replicate PAYLOAD 0xFF))
    null_packet

-- The fields that bytes tell are those of the packet that they spell, and what is refused tells none.
pub record FieldsTold : Type 0 where
  pub spelled : (f : Fields) (bytes : List ℕ) → Spells f bytes → fields_in bytes ≡ Some f
  pub refused : (bytes : List ℕ) (fault : TsFault) → Refuses bytes fault → fields_in bytes ≡ None
  pub told : (f : Fields) (bytes : List ℕ) → length bytes ≡ SIZE → ((k : ℕ) → slice_index bytes k < 256)
      → fields_in bytes ≡ Some f → Spells f bytes

-- The payload is the end of the packet.
abbrev pub PayloadLast : Type 0
PayloadLast = (f : Fields) (bytes : List ℕ) (front : ℕ) → Spells f bytes → front + length f.payload ≡ SIZE
    → (drop front bytes ≡ f.payload) × (4 ≤ front)
